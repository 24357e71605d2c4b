-- Refusals 1 to 7 exactly then, from the whole check and from a recheck.
use Rattle.std.specs.Prelude.{ℕ, ◌≤◌, ◌≡◌, refl, Bool, true, false, ◌↔◌, List, ltb, ℤ, length}
use Rattle.std.proofs.Common.{arith, sym, ap, subst, ◌∙◌, lt-ltb, le-ltb, ltb-true, ltb-false}
use Rattle.meaning.specs.Limits.{fewest_places, most_log_words, most_model_words}
use Rattle.meaning.specs.Read.{Got, got, refused}
use Rattle.meaning.specs.Model.{Model, read_model}
use Rattle.meaning.specs.Check.{shut, accepted, carried, Outcome, over, admitted, guarded, check, Good, good, bad, read_good, changes, cites_changed, fits_old, rechecked, recheck_of, recheck}
use Rattle.meaning.specs.Outcomes.{OnShut}
use Rattle.meaning.specs.Verdicts.{Early, model_over, log_over, places_under, model_off}
use Rattle.meaning.proofs.Proved.Told.{over_told}
use Rattle.meaning.proofs.Proved.OutcomeFacts.{told_late}
use Rattle.meaning.proofs.Proved.LaidOut.{model_refused}

-- no answer of the walk has a small number
abbrev Late : Outcome → Type 0
Late o = OnShut (λ num k p. 10 ≤ num) o.answer

module _ (model log : List ℤ) (places : ℕ) (next : Model → Outcome) (late : (m : Model) → Late (next m)) where
  guarded_early : (num k p : ℕ) → num ≤ 7 → ((guarded model log places next).answer ≡ shut num k p) ↔ ((k ≡ 0) × Early model log places num p)
  guarded_early num k p small = (to (ltb most_model_words (length model)) refl (ltb most_log_words (length log)) refl (ltb places fewest_places) refl (read_model 0 model) refl, from)
    where
      same : {num' p' : ℕ} → shut num' 0 p' ≡ shut num k p → Early model log places num' p' → (k ≡ 0) × Early model log places num p
      same {num'} {p'} e h = let a : num' ≡ num = cc in let b : p' ≡ p = cc in (cc, subst (λ z. Early model log places z p) a (subst (Early model log places num') b h))

      to : (a : Bool) → ltb most_model_words (length model) ≡ a → (b : Bool) → ltb most_log_words (length log) ≡ b → (c : Bool) → ltb places fewest_places ≡ c → (g : Got Model) → read_model 0 model ≡ g
          → (admitted a b c g next).answer ≡ shut num k p → (k ≡ 0) × Early model log places num p
      to true e b f c i g r q = same q (model_over (ltb-true most_model_words (length model) e))
      to false e true f c i g r q = same q (log_over (ltb-false most_model_words (length model) e) (ltb-true most_log_words (length log) f))
      to false e false f true i g r q = same q (places_under (ltb-false most_model_words (length model) e) (ltb-false most_log_words (length log) f) (ltb-true places fewest_places i))
      to false e false f false i (refused num' p') r q = same q (model_off (ltb-false most_model_words (length model) e) (ltb-false most_log_words (length log) f) (ltb-false places fewest_places i) ((model_refused model num' p').0 r))
      to false e false f false i (got m at rest) r q = absurd (let h = subst (OnShut (λ num k p. 10 ≤ num)) q (late m) in omega arith)

      from : (k ≡ 0) × Early model log places num p → (guarded model log places next).answer ≡ shut num k p
      from (z, h) = go h ∙ ap (λ i. shut num i p) (sym z)
        where
          go : {num p : ℕ} → Early model log places num p → (guarded model log places next).answer ≡ shut num 0 p
          go (model_over h) = rw (lt-ltb most_model_words (length model) h)
          go (log_over h l) = rw (le-ltb most_model_words (length model) h, lt-ltb most_log_words (length log) l)
          go (places_under h l o) = rw (le-ltb most_model_words (length model) h, le-ltb most_log_words (length log) l, lt-ltb places fewest_places o)
          go (model_off {num} {p} h l o b) = rw (le-ltb most_model_words (length model) h, le-ltb most_log_words (length log) l, le-ltb places fewest_places o, (model_refused model num p).1 b)

pub check_early : (model log : List ℤ) (places num k p : ℕ) → num ≤ 7 → ((check model log places).answer ≡ shut num k p) ↔ ((k ≡ 0) × Early model log places num p)
check_early model log places = guarded_early model log places (λ m. over (λ t. true) accepted m log) (λ m. told_late (λ t. true) accepted m 0 0 (λ P c. tt) (over_told (λ t. true) accepted m log))

pub recheck_early : (old new log : List ℤ) (places num k p : ℕ) → num ≤ 7 → ((recheck old new log places).outcome.answer ≡ shut num k p) ↔ ((k ≡ 0) × Early new log places num p)
recheck_early old new log places num k p small = go (read_good old) (read_good new)
  where
    fit : (o n : Model) (b : Bool) → ((rechecked o n b new log places).outcome.answer ≡ shut num k p) ↔ ((k ≡ 0) × Early new log places num p)
    fit o n false = check_early new log places num k p small
    fit o n true =
        guarded_early new log places (λ m. over (cites_changed (changes o.rows m.rows)) carried m log)
        (λ m. told_late (cites_changed (changes o.rows m.rows)) carried m 0 0 (λ P c. tt) (over_told (cites_changed (changes o.rows m.rows)) carried m log)) num k p small

    go : (x y : Good) → ((recheck_of x y new log places).outcome.answer ≡ shut num k p) ↔ ((k ≡ 0) × Early new log places num p)
    go bad y = check_early new log places num k p small
    go (good o) bad = check_early new log places num k p small
    go (good o) (good n) = fit o n (fits_old o n)

-- What every recheck meets: its modes, its starts and refusals, the size that it reports and the steps that it judges.
use Rattle.std.specs.Prelude.{ℕ, ◌≤◌, ◌≡◌, refl, Bool, true, false, List, [], ◌∷◌, length, ℤ}
use Rattle.std.proofs.Common.{sym, ap, ◌∙◌, subst, arith}
use Rattle.words.specs.ListFacts.{choose}
use Rattle.meaning.specs.Limits.{most_rows}
use Rattle.meaning.specs.Model.{Model, Row}
use Rattle.meaning.specs.Check.{Answer, shut, accepted, carried, Outcome, over, read_good, Good, good, bad, cites_changed, changes, ones, fits_old, is_early, sized, row_count, wholly, rechecked, recheck_of, recheck}
use Rattle.meaning.specs.Outcomes.{OnShut, Told, Wholly, old_bad, new_bad, unlike, Facts, SizeIs}
use Rattle.meaning.specs.Claims.{RecheckPart}
use Rattle.meaning.proofs.Proved.Classes.{early_is, late_answer}
use Rattle.meaning.proofs.Proved.ReadModel.{KnownModel, known_model}
use Rattle.meaning.proofs.Proved.Guard.{guarded_good, good_read}
use Rattle.meaning.proofs.Proved.Flags.{ones_length}
use Rattle.meaning.proofs.Proved.Told.{over_told}
use Rattle.meaning.proofs.Proved.OutcomeFacts.{told_late, guarded_facts, check_facts, good_fits}

pub recheck_facts : (old new log : List ℤ) (places : ℕ) → Facts (length new) (length log) places (recheck old new log places).outcome
recheck_facts old new log places = go (read_good old) (read_good new)
  where
    fit : (o n : Model) (b : Bool) → Facts (length new) (length log) places (rechecked o n b new log places).outcome
    fit o n true = guarded_facts (λ m. cites_changed (changes o.rows m.rows)) carried (λ P c. tt) new log places
    fit o n false = check_facts new log places

    go : (x y : Good) → Facts (length new) (length log) places (recheck_of x y new log places).outcome
    go bad y = check_facts new log places
    go (good o) bad = check_facts new log places
    go (good o) (good n) = fit o n (fits_old o n)

-- ---- the size
good_known : (model : List ℤ) {m : Model} → read_good model ≡ good m → KnownModel m
good_known model e = known_model model (good_read model e).reads

changes_few : (ps qs : List Row) → ones (changes ps qs) ≤ length ps
changes_few ps qs = let h = ones_length (changes ps qs) in let l = go ps qs in omega arith
  where
    go : (ps qs : List Row) → length (changes ps qs) ≤ length ps
    go [] qs = omega arith
    go (p ∷ ps) [] = omega arith
    go (p ∷ ps) (q ∷ qs) = let h = go ps qs in omega arith

sized_few : (n : ℕ) (o : Outcome) → n ≤ most_rows → SizeIs (sized n o)
sized_few n o l = record { few_rows = choose (λ s. s ≤ most_rows) (is_early o.answer) (λ e. omega arith) (λ e. l); early_none = go o.answer }
  where
    go : (a : Answer) → OnShut (λ num k p. num ≤ 7 → ◌≡◌ {A = ℕ} (elim (is_early a) [ true ↦ 0 | false ↦ n ]) 0) a
    go (shut num k p) = λ h. ap (λ b. elim b [ true ↦ 0 | false ↦ n ]) (early_is num k p (omega arith))
    go (accepted c) = tt
    go (carried c) = tt

wholly_size : (new log : List ℤ) (places : ℕ) → SizeIs (wholly new log places)
wholly_size new log places = sized_few (row_count new) _ (go (read_good new) refl)
  where
    go : (x : Good) → read_good new ≡ x → (elim x [ good m ↦ length m.rows | bad ↦ 0 ]) ≤ most_rows
    go (good m) e = (good_known new e).few_rows
    go bad e = omega arith

pub recheck_size : (old new log : List ℤ) (places : ℕ) → SizeIs (recheck old new log places)
recheck_size old new log places = go (read_good old) refl (read_good new)
  where
    fit : (o n : Model) (b : Bool) → read_good old ≡ good o → SizeIs (rechecked o n b new log places)
    fit o n true e = sized_few (ones (changes o.rows n.rows)) _ (let h = changes_few o.rows n.rows in let k = (good_known old e).few_rows in omega arith)
    fit o n false e = wholly_size new log places

    go : (x : Good) → read_good old ≡ x → (y : Good) → SizeIs (recheck_of x y new log places)
    go bad e y = wholly_size new log places
    go (good o) e bad = wholly_size new log places
    go (good o) e (good n) = fit o n (fits_old o n) e

-- ---- whole mode
pub wholly_is : (old new log : List ℤ) (places : ℕ) → Wholly old new → recheck old new log places ≡ wholly new log places
wholly_is old new log places (old_bad e) = ap (λ g. recheck_of g (read_good new) new log places) e
wholly_is old new log places (new_bad e) = ap (λ g. recheck_of (read_good old) g new log places) e ∙ go (read_good old)
  where
    go : (x : Good) → recheck_of x bad new log places ≡ wholly new log places
    go bad = refl
    go (good o) = refl
wholly_is old new log places (unlike {o} {n} x y e) =
    ap (λ g. recheck_of g (read_good new) new log places) x ∙ ap (λ g. recheck_of (good o) g new log places) y ∙ ap (λ b. rechecked o n b new log places) e

-- ---- the other mode
pub recheck_part : RecheckPart
recheck_part old new log places o n x y f l p =
    let held = cites_changed (changes o.rows n.rows) in
    let size = ones (changes o.rows n.rows) in
    let e : recheck old new log places ≡ sized size (over held carried n log) =
    ap (λ g. recheck_of g (read_good new) new log places) x ∙ ap (λ g. recheck_of (good o) g new log places) y ∙ ap (λ b. rechecked o n b new log places) f
    ∙ ap (sized size) (guarded_good new log places (λ m. over (cites_changed (changes o.rows m.rows)) carried m log) (good_fits new log places y l p)) in
    let t = over_told held carried n log in (
      subst (λ r. Told held carried n 0 0 [] log r.outcome.starts r.outcome.judged r.outcome.answer) (sym e) t,
      ap (λ r. r.size) e ∙ ap (λ b. elim b [ true ↦ 0 | false ↦ size ]) (late_answer (over held carried n log).answer (told_late held carried n 0 0 (λ P c. tt) t)),
    )

-- What "accepted" says of any tables: the model is good, the sizes are right, and what is concluded is true.
use Rattle.std.specs.Prelude.{ℕ, ◌≡◌, Bool, true, false, List, ℤ}
use Rattle.std.proofs.Common.{arith}
use Rattle.meaning.specs.Model.{Model}
use Rattle.meaning.specs.Log.{Step, Fact}
use Rattle.meaning.specs.Check.{check, recheck, recheck_of, rechecked, read_good, fits_old, Good, good, bad, over, cites_changed, changes, Answer, accepted, carried, Conclusion}
use Rattle.meaning.specs.Claims.{Concludes, Admitted, AcceptedGiven}
use Rattle.meaning.specs.Outcomes.{Told, ran_out, broke_off, word_off, faulty, trailing, concluded, went}
use Rattle.meaning.proofs.Proved.Guard.{Fits, guarded_cases, not_accepted}
use Rattle.meaning.proofs.Proved.Told.{over_told}
use Rattle.meaning.proofs.Proved.Sound.{sound}
use Rattle.meaning.proofs.Proved.Ranged.{model_is}

accepted_good : (model log : List ℤ) (places : ℕ) {c : Conclusion} → (check model log places).answer ≡ accepted c → (m : Model) × Fits model log places m × Concludes m c
accepted_good model log places {c} e =
    let r = guarded_cases (λ o. o.answer ≡ accepted c → (m : Model) × Fits model log places m) model log places (λ m. over (λ t. true) accepted m log) (λ num p b q. not_accepted q) (λ m f q. (m, f)) e in
    (r.0, r.1, sound model log places r.0 r.1.at r.1.rest c r.1.reads e)

not_carried : {b c : Conclusion} {A : Type 0} → carried b ≡ accepted c → A
not_carried e = absurd (let z : ◌≡◌ {A = ℕ} 0 1 = cc in omega arith)

never : {held : Step → Bool} {m : Model} {k at : ℕ} {fs : List Fact} {ws : List ℤ} {l : List ℕ} {j : ℕ} {a : Answer} {c : Conclusion} {A : Type 0} → Told held carried m k at fs ws l j a → a ≡ accepted c → A
never ran_out e = not_accepted e
never (broke_off r p) e = not_accepted e
never (word_off r p q) e = not_accepted e
never (faulty r h j f) e = not_accepted e
never (trailing r v t) e = not_accepted e
never (concluded r v t) e = not_carried e
never (went r v t w) e = never w e

recheck_accepted : (old new log : List ℤ) (places : ℕ) {c : Conclusion} → (recheck old new log places).outcome.answer ≡ accepted c → (check new log places).answer ≡ accepted c
recheck_accepted old new log places {c} e = go (read_good old) (read_good new) e
  where
    fit : (o n : Model) (b : Bool) → (rechecked o n b new log places).outcome.answer ≡ accepted c → (check new log places).answer ≡ accepted c
    fit o n false e = e
    fit o n true e =
        guarded_cases (λ x. x.answer ≡ accepted c → (check new log places).answer ≡ accepted c) new log places (λ m. over (cites_changed (changes o.rows m.rows)) carried m log)
        (λ num p b q. not_accepted q) (λ m f q. never (over_told (cites_changed (changes o.rows m.rows)) carried m log) q) e

    go : (x y : Good) → (recheck_of x y new log places).outcome.answer ≡ accepted c → (check new log places).answer ≡ accepted c
    go bad y e = e
    go (good o) bad e = e
    go (good o) (good n) e = fit o n (fits_old o n) e

pub accepted_given : AcceptedGiven
accepted_given old model log places c = (λ e. go (accepted_good model log places e), recheck_accepted old model log places)
  where
    go : (m : Model) × Fits model log places m × Concludes m c → (m : Model) × Admitted model log places m × Concludes m c
    go (m, f, t) =
        let r = (model_is model m f.at f.rest).0 f.reads in
        (m, record { model_fits = f.model_fits; log_fits = f.log_fits; places_suffice = f.places_suffice; words_are = r.0; in_range = r.1 }, t)

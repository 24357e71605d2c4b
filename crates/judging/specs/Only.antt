-- No other verdict tells the same.
use Rattle.std.specs.Prelude.{◌≡◌, refl, Result, Ok, Err}
use Rattle.std.proofs.Common.{sym, ap, ◌∙◌}
use Rattle.meaning.specs.Judge as judge
use Rattle.reading.specs.Only.{reason_of, is_reason_of}
use Rattle.reading.specs.declared.refusals.Reason.{Reason}
use Rattle.reading.specs.declared.refusals.Refusal.{Refusal}
use Rattle.judging.specs.Told.{told_verdict}

-- the way back from what a verdict tells
abbrev given_by : judge.Verdict → Result (Unit {0}) Refusal
given_by judge.passes = Ok tt
given_by (judge.fails num p) = Err (record { reason = reason_of num; position = p })

verdict_back : (r : Result (Unit {0}) Refusal) → given_by (told_verdict r) ≡ r
verdict_back (Ok u) = refl
verdict_back (Err e) = ap (λ (x : Reason). Err (record { reason = x; position = e.position })) (is_reason_of e.reason)

pub only_verdict : (a b : Result (Unit {0}) Refusal) → told_verdict a ≡ told_verdict b → a ≡ b
only_verdict a b e = sym (verdict_back a) ∙ ap given_by e ∙ verdict_back b

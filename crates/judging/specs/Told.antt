-- What a verdict tells: document 01's number and position of a refusal.
use Rattle.std.specs.Prelude.{Result, Ok, Err}
use Rattle.meaning.specs.Judge as judge
use Rattle.reading.specs.Reasons.{number_of}
use Rattle.reading.specs.declared.refusals.Refusal.{Refusal}

abbrev pub told_verdict : Result (Unit {0}) Refusal → judge.Verdict
told_verdict (Ok u) = judge.passes
told_verdict (Err e) = judge.fails (number_of e.reason) e.position

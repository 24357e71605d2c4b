-- The numbers of the kinds, as include/dimpsyholt.h has them.
use Rattle.std.specs.Prelude.{ℕ}
use Rattle.answer.specs.declared.Kind.{Kind}
use Rattle.answer.specs.declared.Kind.TheVariants as kind

abbrev pub number_of : Kind → ℕ
number_of kind.Refused = 0
number_of kind.Accepted = 1
number_of kind.Carried = 2

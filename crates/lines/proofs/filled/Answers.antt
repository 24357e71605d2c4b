use Rattle.std.proofs.Common.{◌≤◌, length, ◌≡◌, take, ℕ, ◌+◌, ◌-◌, List, ◌++◌, arith}
use Rattle.std.proofs.KnownBytes.{Consumes-trans}
use Rattle.std.proofs.lemmas.List.{take-append-le, length-take-le, length-append}
use Rattle.std.proofs.Math.Seq.{take-append-add}
use borrow.Rule.Slice.PartMut.{put_mid, post_of}
use Rattle.lines.proofs.filled.Goals as goal

-- the front of a room into whose rest was read
front : (a k m : ℕ) (xs ys : List ℕ) → a ≤ length xs → m ≤ length ys → take (a + m) (put_mid a k xs ys) ≡ take a xs ++ take m ys
front a k m xs ys h l =
    let e : length (take a xs) ≡ a = length-take-le a xs h in
    rw (← take-append-le m ys (post_of a k xs) l, ← take-append-add (take a xs) (ys ++ post_of a k xs) m, e)

pub loop-n-preserved : goal.loop-n-preserved
loop-n-preserved g c =
    let l : c.in_ok-got.got ≤ length c.read.new.buf = c.in_ok-got.ensures.bound.0 in
    let q = front c.loop-n.n (length c.loop-n.room - c.loop-n.n) c.in_ok-got.got c.loop-n.room c.read.new.buf c.loop-n.invariant.0 l in
    (omega (arith, length-append {A = ℕ}, length-take-le {A = ℕ}), rw q (Consumes-trans _ _ _ _ _ c.loop-n.invariant.1 c.in_ok-got.ensures.bytes.0))

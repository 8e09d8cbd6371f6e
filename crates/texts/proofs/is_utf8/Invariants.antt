use Rattle.std.proofs.Common.{◌≡◌, length}
use Rattle.texts.specs.Utf8.{well_formed}
use Rattle.texts.proofs.is_utf8.Given as goal

abbrev pub invariant-loop-left : goal.invariant-loop-left
invariant-loop-left l = well_formed l.text ≡ well_formed l.left

abbrev pub decreases-loop-left : goal.decreases-loop-left
decreases-loop-left l = length l.left

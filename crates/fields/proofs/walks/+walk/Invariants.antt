use Rattle.std.proofs.Common.{◌+◌, ◌*◌}
use Rattle.fields.specs.Walks.{held, walk_at}
use Rattle.fields.proofs.Walked.{Sofar}
use Rattle.fields.proofs.walks.+walk.Given as goal

abbrev pub decreases-read_children : goal.decreases-read_children
decreases-read_children l = 3 * l.depth + 2

abbrev pub decreases-read_field : goal.decreases-read_field
decreases-read_field l = 3 * l.depth + 1

abbrev pub decreases-read_plain : goal.decreases-read_plain
decreases-read_plain l = 3 * l.depth + 3

abbrev pub decreases-read_indexed : goal.decreases-read_indexed
decreases-read_indexed l = 3 * l.depth + 3

abbrev pub invariant-read_children-loop-k : goal.invariant-read_children-loop-k
invariant-read_children-loop-k l = Sofar (walk_at l.depth l.bytes) l.bytes l.tags l.children.at l.children.count l.k (held l.initial.rows) (held l.rows)

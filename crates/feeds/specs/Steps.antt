-- A feed byte by byte: the frames' own steps, with the message of each frame acted on when it is whole.
use Rattle.std.specs.Prelude.{ℕ, List, []}
use Rattle.message.specs.declared.faults.Fault.{Fault}
use Rattle.message.specs.declared.faults.Place.{Place}
use Rattle.framing.specs.Frames.{Shown, frame, end}
use Rattle.framing.specs.Moves.{Moved, on, shows, refuses, Went, refused, goes}
use Rattle.framing.specs.Steps.{Stand, header, metadata, body, ended, stopped, step}
use Rattle.framing.specs.Streams.{start}
use Rattle.columns.specs.Reads.{fault_at}
use Rattle.feeds.specs.Messages.{Terms, Kept, Batch, Outcome, refuses as refuses_it, keeps, shows as shows_it}
use Rattle.feeds.specs.Streams.{Meaning, envelope, holds_of, nothing_kept, act_frame}

-- where a feed stands in its frames, and what it keeps
pub record State : Type 0 where
  pub stand : Stand
  pub kept : Kept

abbrev pub Move : Type 0
Move = Moved State Batch Fault

-- before the first byte
abbrev pub starting : State
starting = record { stand = header start []; kept = nothing_kept }

-- a refused message stops the feed, and leaves what was kept before it
abbrev pub acted : Kept → Place → Stand → Outcome → Move
acted k p s (refuses_it b) = refuses (fault_at p b) (record { stand = stopped (fault_at p b); kept = k })
acted k p s (keeps k') = on (record { stand = s; kept = k' })
acted k p s (shows_it k' b) = shows b (record { stand = s; kept = k' })

abbrev pub shown_frame : Terms → Meaning → Kept → Stand → Shown → Move
shown_frame t m k s (frame f) = acted k f.place s (act_frame t m k f)
shown_frame t m k s (end p) = on (record { stand = s; kept = k })

abbrev pub moved_by : Terms → Meaning → Kept → Moved Stand Shown Fault → Move
moved_by t m k (on s) = on (record { stand = s; kept = k })
moved_by t m k (shows x s) = shown_frame t m k s x
moved_by t m k (refuses f s) = refuses f (record { stand = s; kept = k })

unfoldable pub feed_step : Terms → Meaning → State → ℕ → Move
feed_step t m s b = moved_by t m s.kept (step (holds_of t) (envelope m) s.stand b)

-- a piece, up to the first batch that it completes; a feed that has stopped answers the fault that it keeps
abbrev pub fed_by : Terms → Meaning → Kept → List ℕ → Stand → Went State Batch Fault
fed_by t m k piece (header p got) = goes (feed_step t m) (record { stand = header p got; kept = k }) piece
fed_by t m k piece (metadata p marked n got) = goes (feed_step t m) (record { stand = metadata p marked n got; kept = k }) piece
fed_by t m k piece (body p marked meta facts n got) = goes (feed_step t m) (record { stand = body p marked meta facts n got; kept = k }) piece
fed_by t m k piece (ended p) = goes (feed_step t m) (record { stand = ended p; kept = k }) piece
fed_by t m k piece (stopped f) = refused f (record { stand = stopped f; kept = k })

abbrev pub fed : Terms → Meaning → State → List ℕ → Went State Batch Fault
fed t m s piece = fed_by t m s.kept piece s.stand

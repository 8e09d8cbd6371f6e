-- Laws of messages and streams.
use Rattle.std.specs.Prelude.{◌≡◌, ℕ, List}
use Rattle.message.specs.Messages.{Message}
use Rattle.framing.specs.Calls.{close_of}
use Rattle.framing.specs.Moves.{Whole, whole}
use Rattle.columns.specs.Cells.{InRange, Answers}
use Rattle.feeds.specs.Messages.{Terms, Kept, Batch, shows, act}
use Rattle.feeds.specs.Streams.{Meaning, Told, feed}
use Rattle.feeds.specs.Steps.{State, starting, feed_step}

-- in a batch that a message shows, every cell in range answers, and each cell that it points to is in range
abbrev pub BatchesAnswer : Type 0
BatchesAnswer = (t : Terms) (k k' : Kept) (m : Message) (body : List ℕ) (b : Batch) → act t k m body ≡ shows k' b → (e i : ℕ) → InRange b.sight e i → Answers b.sight e i

-- what all bytes told, once the last is used
abbrev pub told_of : Whole State Batch → Told
told_of w = record { batches = w.shown; kept = w.last.kept; close = close_of w.last.stand }

-- the feed byte by byte is the feed message by message
abbrev pub StepsTell : Type 0
StepsTell = (t : Terms) (m : Meaning) (bytes : List ℕ) → told_of (whole (feed_step t m) starting bytes) ≡ feed t m bytes

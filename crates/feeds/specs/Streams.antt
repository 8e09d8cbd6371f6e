-- What a whole stream shows, by its bytes alone: its frames, and what the message in each does, one after the other.
use Rattle.std.specs.Prelude.{ℕ, List, [], ◌∷◌, Some, None}
use Rattle.message.specs.declared.faults.Place.{Place}
use Rattle.message.specs.declared.faults.Refusal.TheVariants.{Metadata}
use Rattle.message.specs.Messages.{Read, facts_of}
use Rattle.framing.specs.Frames.{Holds, Envelope, Frame, Shown, frame, end}
use Rattle.framing.specs.Streams.{Close, by, Stream, stream}
use Rattle.columns.specs.Reads.{plainly, fault_at}
use Rattle.feeds.specs.Messages.{Terms, Kept, Batch, Outcome, refuses, keeps, shows, act}

-- what a reading says of any metadata bytes
abbrev pub Meaning : Type 0
Meaning = List ℕ → Read

abbrev pub envelope : Meaning → Envelope
envelope m bs = facts_of (m bs)

abbrev pub holds_of : Terms → Holds
holds_of t = record { metadata = t.message; body = t.body }

-- before the first message
abbrev pub nothing_kept : Kept
nothing_kept = record { schema = None; areas = [] }

abbrev pub act_read : Terms → Kept → List ℕ → Read → Outcome
act_read t k body None = refuses (plainly Metadata)
act_read t k body (Some m) = act t k m body

-- the message of a frame
abbrev pub act_frame : Terms → Meaning → Kept → Frame → Outcome
act_frame t m k f = act_read t k f.body (m f.metadata)

-- what a stream tells: its batches in their order, what is kept behind the last message, and how it closes
pub record Told : Type 0 where
  pub batches : List Batch
  pub kept : Kept
  pub close : Close

abbrev pub and_batch : Batch → Told → Told
and_batch b t = record { batches = b ∷ t.batches; kept = t.kept; close = t.close }

abbrev pub tells : (Kept → Told) → Kept → Place → Outcome → Told
tells later k p (refuses b) = record { batches = []; kept = k; close = by (fault_at p b) }
tells later k p (keeps k') = later k'
tells later k p (shows k' b) = and_batch b (later k')

-- messages one after the other, up to the first that is refused; else the stream closes as its frames do
abbrev pub messages : Terms → Meaning → Close → Kept → List Shown → Told
messages t m close k [] = record { batches = []; kept = k; close = close }
messages t m close k (frame f ∷ more) = tells (λ k'. messages t m close k' more) k f.place (act_frame t m k f)
messages t m close k (end p ∷ more) = messages t m close k more

abbrev pub told_by : Terms → Meaning → Kept → Stream → Told
told_by t m k s = messages t m s.close k s.shown

-- the feed of these bytes, whatever the pieces in which they come
unfoldable pub feed : Terms → Meaning → List ℕ → Told
feed t m bytes = told_by t m nothing_kept (stream (holds_of t) (envelope m) bytes)

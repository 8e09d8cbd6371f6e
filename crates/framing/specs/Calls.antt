-- What the calls of a decoder answer, by where it stands.
use Rattle.std.specs.Prelude.{◌≡◌, ℕ, ◌-◌, List, [], ◌∷◌, length, take, Some, None, Ok, Err, Result}
use Rattle.message.specs.declared.faults.Fault.{Fault}
use Rattle.message.specs.declared.faults.Refusal.TheVariants.{Unfinished}
use Rattle.message.specs.Faults.{bare}
use Rattle.framing.specs.declared.events.Event.{Event}
use Rattle.framing.specs.declared.events.Event.TheVariants.{Frame as FrameEvent, End as EndEvent}
use Rattle.framing.specs.declared.events.Step.{Step}
use Rattle.framing.specs.Moves.{Went, quiet, showed, refused, goes}
use Rattle.framing.specs.Frames.{Holds, Envelope, Shown, frame, end}
use Rattle.framing.specs.Steps.{Stand, header, metadata, body, ended, stopped, step}
use Rattle.framing.specs.Streams.{Close, well, short, by}

-- a piece, up to the first frame that it makes whole; a decoder that has stopped answers the fault that it keeps
abbrev pub advanced : Holds → Envelope → Stand → List ℕ → Went Stand Shown Fault
advanced h e (header p got) piece = goes (step h e) (header p got) piece
advanced h e (metadata p marked n got) piece = goes (step h e) (metadata p marked n got) piece
advanced h e (body p marked meta facts n got) piece = goes (step h e) (body p marked meta facts n got) piece
advanced h e (ended p) piece = goes (step h e) (ended p) piece
advanced h e (stopped f) piece = refused f (stopped f)

abbrev pub event_of : Shown → Event
event_of (frame f) = FrameEvent (record { place = f.place; opening = record { marked = f.marked; size = length f.metadata }; facts = f.facts; body = length f.body })
event_of (end p) = EndEvent p

abbrev pub answered : List ℕ → Went Stand Shown Fault → Result Step Fault
answered piece (quiet s) = Ok (record { used = length piece; event = None })
answered piece (showed x s rest) = Ok (record { used = length piece - length rest; event = Some (event_of x) })
answered piece (refused f s) = Err f

abbrev pub standing : Went Stand Shown Fault → Stand
standing (quiet s) = s
standing (showed x s rest) = s
standing (refused f s) = s

-- a frame that came whole is at the front of the two holds
abbrev pub InHolds : Shown → List ℕ → List ℕ → Type 0
InHolds (frame f) m b = (take (length f.metadata) m ≡ f.metadata) × (take (length f.body) b ≡ f.body)
InHolds (end p) m b = Unit {0}

abbrev pub Held : Went Stand Shown Fault → List ℕ → List ℕ → Type 0
Held (quiet s) m b = Unit {0}
Held (showed x s rest) m b = InHolds x m b
Held (refused f s) m b = Unit {0}

abbrev pub between_frames : List ℕ → Result (Unit {0}) Fault
between_frames [] = Ok tt
between_frames (b ∷ bs) = Err (bare Unfinished)

-- whether the stream may stop here
abbrev pub end_at : Stand → Result (Unit {0}) Fault
end_at (header p got) = between_frames got
end_at (metadata p marked n got) = Err (bare Unfinished)
end_at (body p marked meta facts n got) = Err (bare Unfinished)
end_at (ended p) = Ok tt
end_at (stopped f) = Err f

-- how a stream that stands here closes, if no byte comes any more
abbrev pub close_of : Stand → Close
close_of (header p []) = well
close_of (header p (b ∷ got)) = short
close_of (metadata p marked n got) = short
close_of (body p marked meta facts n got) = short
close_of (ended p) = well
close_of (stopped f) = by f

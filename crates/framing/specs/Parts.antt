-- A frame by its parts, as a relation between it and the bytes.
use Rattle.std.specs.Prelude.{◌≡◌, ℕ, ◌<◌, ◌≤◌, List, ◌++◌, length, drop, Some, Ok}
use Rattle.message.specs.declared.faults.Place.{Place}
use Rattle.framing.specs.Frames.{Holds, Envelope, Frame, marks, opening, size_of, body_length, length_of}
use Rattle.framing.specs.Streams.{first, whole}

-- the bytes are the frame's opening, its metadata and its body, and others behind it; the opening has the marker or
-- not, and the size of the metadata; the metadata are some, fit their hold and say what the frame says; and the body is
-- as long as they say
pub record Begins (h : Holds) (e : Envelope) (f : Frame) (bs rest : List ℕ) : Type 0 where
  pub front : List ℕ
  pub joined : bs ≡ front ++ (f.metadata ++ (f.body ++ rest))
  pub long : length front ≡ opening f.marked
  pub mark : marks front ≡ f.marked
  pub size : size_of front ≡ length f.metadata
  pub some : 0 < length f.metadata
  pub fits : length f.metadata ≤ h.metadata
  pub told : e f.metadata ≡ Ok f.facts
  pub body : body_length h f.facts ≡ Some (length f.body)

-- a stream's first frame is whole exactly when the bytes begin with it
pub record Exactly (h : Holds) (e : Envelope) (p : Place) (f : Frame) (bs : List ℕ) : Type 0 where
  pub parts : first h e p bs ≡ whole f → (f.place ≡ p) × Begins h e f bs (drop (length_of f) bs)
  pub found : (rest : List ℕ) → f.place ≡ p → Begins h e f bs rest → first h e p bs ≡ whole f

abbrev pub FramesAreTheirParts : Type 0
FramesAreTheirParts = (h : Holds) (e : Envelope) (p : Place) (f : Frame) (bs : List ℕ) → Exactly h e p f bs

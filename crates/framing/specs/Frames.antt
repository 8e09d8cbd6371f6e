-- Frames: the continuation marker or none, the size of the metadata, the metadata, and the body.
use Rattle.std.specs.Prelude.{ℕ, ◌+◌, ◌-◌, ◌%◌, ◌^◌, Bool, cond, ◌&&◌, List, length, ℤ, pos, negsuc, Some, None, Option, Result, ◌==◌, nat_le, slice_index}
use Rattle.little.specs.Numbers.{number_in}
use Rattle.message.specs.declared.faults.Place.{Place}
use Rattle.message.specs.declared.headers.Facts.{Facts}
use Rattle.message.specs.declared.readings.Refused.{Refused}

-- the lengths of the two holds: the longest metadata and the longest body
pub record Holds : Type 0 where
  pub metadata : ℕ
  pub body : ℕ

-- what metadata bytes say of themselves, or that they are refused
abbrev pub Envelope : Type 0
Envelope = List ℕ → Result Facts Refused

-- a frame: where it stands, whether it opens with the marker, its metadata, what they say, and its body
pub record Frame : Type 0 where
  pub place : Place
  pub marked : Bool
  pub metadata : List ℕ
  pub facts : Facts
  pub body : List ℕ

-- what a stream shows: a frame, or its end
pub data Shown : Type 0 where
  frame : Frame → Shown
  end : Place → Shown

-- numbers and positions of frames go round at 2^64
abbrev pub turned : ℕ → ℕ
turned n = n % 2 ^ 64

-- where the frame behind one of n bytes stands
abbrev pub behind : Place → ℕ → Place
behind p n = record { message = turned (p.message + 1); position = turned (p.position + n) }

-- whether bytes open with the continuation marker, four bytes FF
unfoldable pub marks : List ℕ → Bool
marks bs = slice_index bs 0 == 255 && (slice_index bs 1 == 255 && (slice_index bs 2 == 255 && slice_index bs 3 == 255))

-- how many bytes open a frame: the marker, where there is one, and the size
abbrev pub opening : Bool → ℕ
opening marked = cond marked 8 4

-- the size: the last four bytes of the opening
abbrev pub size_of : List ℕ → ℕ
size_of bs = number_in 4 bs (opening (marks bs) - 4)

abbrev pub at_most : ℕ → ℤ → Option ℕ
at_most most (pos n) = cond (nat_le n most) (Some n) None
at_most most (negsuc n) = None

-- the length of a body: from 0 to the length of its hold
abbrev pub body_length : Holds → Facts → Option ℕ
body_length h f = at_most h.body f.body

-- the bytes of a frame in all
abbrev pub length_of : Frame → ℕ
length_of f = opening f.marked + (length f.metadata + length f.body)

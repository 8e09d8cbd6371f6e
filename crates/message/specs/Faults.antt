-- Refusals by their numbers, and faults.
use Rattle.std.specs.Prelude.{ℕ, Some, None}
use Rattle.message.specs.declared.faults.Fault.{Fault}
use Rattle.message.specs.declared.faults.Place.{Place}
use Rattle.message.specs.declared.faults.Refusal.{Refusal}
use Rattle.message.specs.declared.faults.Refusal.TheVariants.{Lengths, ChoiceLength, BehindEnd, MetadataSize, Metadata, BodyLength, HeaderType, SecondSchema, Rows, NoSchema, NoSuchId, Marks, ListLength, NoNode, NodeRange, ViewCount, NoBuffer, BufferRange, Rule, NoSuchColumn, CountsLeft, BatchLength, DeltaFirst, Room, Unfinished, NoBatch, OutOfRange, Changed}

abbrev pub number_of : Refusal → ℕ
number_of Lengths = 1
number_of ChoiceLength = 2
number_of BehindEnd = 3
number_of MetadataSize = 4
number_of Metadata = 5
number_of BodyLength = 6
number_of HeaderType = 7
number_of SecondSchema = 8
number_of Rows = 9
number_of NoSchema = 10
number_of NoSuchId = 11
number_of Marks = 12
number_of ListLength = 13
number_of NoNode = 14
number_of NodeRange = 15
number_of ViewCount = 16
number_of NoBuffer = 17
number_of BufferRange = 18
number_of Rule = 19
number_of NoSuchColumn = 20
number_of CountsLeft = 21
number_of BatchLength = 22
number_of DeltaFirst = 23
number_of Room = 24
number_of Unfinished = 25
number_of NoBatch = 26
number_of OutOfRange = 27
number_of Changed = 28

-- the refusal of a call, which no frame brought about
abbrev pub bare : Refusal → Fault
bare r = record { refusal = r; place = None; row = None; index = None }

-- the refusal of a frame
abbrev pub placed : Refusal → Place → Fault
placed r p = record { refusal = r; place = Some p; row = None; index = None }

-- Streams and metadata worked out from their bytes.
use Rattle.std.specs.Prelude.{◌≡◌, ℕ, true, false, List, [], ◌∷◌, ◌++◌, take, pos, negsuc, Some, None}
use Rattle.message.specs.declared.faults.Place.{Place}
use Rattle.message.specs.declared.faults.Refusal.TheVariants.{BehindEnd, MetadataSize, Metadata, BodyLength}
use Rattle.message.specs.declared.headers.Facts.{Facts}
use Rattle.message.specs.declared.headers.Header.TheVariants.{Empty}
use Rattle.message.specs.Faults.{placed}
use Rattle.message.specs.Messages.{dictionary, batch, schema, facts_of}
use Rattle.framing.specs.Frames.{Holds, Envelope, frame, end}
use Rattle.framing.specs.Streams.{well, short, by, start, stream}
use Rattle.slip.specs.Slips.{slip_meaning}
use Rattle.flatbuf.specs.Flat.{flat_meaning}
use Rattle.texts.specs.Utf8.{well_formed}

abbrev pub holds : Holds
holds = record { metadata = 100; body = 4 }

-- metadata are read as slips
abbrev pub slips : Envelope
slips bs = facts_of (slip_meaning bs)

abbrev pub place : ℕ → ℕ → Place
place m p = record { message = m; position = p }

abbrev pub marker : List ℕ
marker = 255 ∷ 255 ∷ 255 ∷ 255 ∷ []

abbrev pub end_mark : List ℕ
end_mark = marker ++ (0 ∷ 0 ∷ 0 ∷ 0 ∷ [])

-- header type 0, and a body of 2 bytes
abbrev pub empty : List ℕ
empty = 4 ∷ 0 ∷ 0 ∷ 0 ∷ 2 ∷ 0 ∷ 0 ∷ 0 ∷ 0 ∷ 0 ∷ 0 ∷ 0 ∷ 0 ∷ 0 ∷ 0 ∷ 0 ∷ 0 ∷ 0 ∷ 0 ∷ 0 ∷ 0 ∷ 0 ∷ 0 ∷ 0 ∷ 0 ∷ 0 ∷ 0 ∷ 0 ∷ 0 ∷ 0 ∷ 0 ∷ 0 ∷ 0 ∷ 0 ∷ 0 ∷ 0 ∷ 0 ∷ 0 ∷ 0 ∷ 0 ∷ 0 ∷ 0 ∷ 0 ∷ 0 ∷ 0 ∷ 0 ∷ 0 ∷ 0 ∷ 0 ∷ 0 ∷ 0 ∷ 0 ∷ 0 ∷ 0 ∷ 0 ∷ 0 ∷ 0 ∷ 0 ∷ 0 ∷ 0 ∷ 83 ∷ 76 ∷ 80 ∷ 49 ∷ []

abbrev pub empty_facts : Facts
empty_facts = record { version = pos 4; body = pos 2; header = Empty }

abbrev pub empty_frame : List ℕ → List ℕ
empty_frame later = marker ++ ((64 ∷ 0 ∷ 0 ∷ 0 ∷ []) ++ (empty ++ (7 ∷ 8 ∷ later)))

-- the end mark alone; with a byte behind it; eight bytes FF; nothing; half of an opening
pub record Ends : Type 0 where
  pub mark : stream holds slips end_mark ≡ record { shown = end start ∷ []; close = well }
  pub behind : stream holds slips (end_mark ++ (1 ∷ [])) ≡ record { shown = end start ∷ []; close = by (placed BehindEnd (place 1 8)) }
  pub long : stream holds slips (marker ++ marker) ≡ record { shown = []; close = by (placed MetadataSize start) }
  pub none : stream holds slips [] ≡ record { shown = []; close = well }
  pub half : stream holds slips (marker ++ (1 ∷ [])) ≡ record { shown = []; close = short }

-- a frame with its body, and the end mark without a marker; the same cut in the body; a body above its hold
pub record Frames : Type 0 where
  pub whole : stream holds slips (empty_frame (0 ∷ 0 ∷ 0 ∷ 0 ∷ [])) ≡ record {
    shown = frame (record { place = start; marked = true; metadata = empty; facts = empty_facts; body = 7 ∷ 8 ∷ [] }) ∷ end (place 1 74) ∷ [];
    close = well;
  }
  pub cut : stream holds slips (take 73 (empty_frame [])) ≡ record { shown = []; close = short }
  pub large : stream (record { metadata = 100; body = 1 }) slips (empty_frame []) ≡ record { shown = []; close = by (placed BodyLength start) }
  pub unread : stream holds slips (marker ++ ((1 ∷ 0 ∷ 0 ∷ 0 ∷ []) ++ (9 ∷ []))) ≡ record { shown = []; close = by (placed Metadata start) }

-- a dictionary batch as a slip, whose lists are the same 16 bytes
abbrev pub slip_bytes : List ℕ
slip_bytes = 5 ∷ 0 ∷ 0 ∷ 0 ∷ 0 ∷ 0 ∷ 0 ∷ 0 ∷ 254 ∷ 255 ∷ 255 ∷ 255 ∷ 255 ∷ 255 ∷ 255 ∷ 255 ∷ 4 ∷ 0 ∷ 2 ∷ 1 ∷ 0 ∷ 0 ∷ 0 ∷ 0 ∷ 0 ∷ 0 ∷ 0 ∷ 0 ∷ 7 ∷ 0 ∷ 0 ∷ 0 ∷ 0 ∷ 0 ∷ 0 ∷ 0 ∷ 247 ∷ 255 ∷ 255 ∷ 255 ∷ 255 ∷ 255 ∷ 255 ∷ 255 ∷ 0 ∷ 0 ∷ 0 ∷ 0 ∷ 0 ∷ 0 ∷ 0 ∷ 0 ∷ 1 ∷ 0 ∷ 0 ∷ 0 ∷ 16 ∷ 0 ∷ 0 ∷ 0 ∷ 1 ∷ 0 ∷ 0 ∷ 0 ∷ 16 ∷ 0 ∷ 0 ∷ 0 ∷ 2 ∷ 0 ∷ 0 ∷ 0 ∷ 16 ∷ 0 ∷ 0 ∷ 0 ∷ 83 ∷ 76 ∷ 80 ∷ 49 ∷ []

pub record SlipCase : Type 0 where
  pub told : slip_meaning slip_bytes ≡ Some (record {
    version = pos 4;
    body = pos 0;
    contents = dictionary (negsuc 8) true (record {
      long = pos 7;
      compressed = false;
      missing = false;
      nodes = record { length = pos 5; nulls = negsuc 1 } ∷ [];
      buffers = record { offset = pos 5; length = negsuc 1 } ∷ [];
      counts = pos 5 ∷ negsuc 1 ∷ [];
    });
  })
  pub short : slip_meaning (take 79 slip_bytes) ≡ None

-- a record batch and a schema in FlatBuffers: a dictionary field of text, without an index type
abbrev pub batch_bytes : List ℕ
batch_bytes = 24 ∷ 0 ∷ 0 ∷ 0 ∷ 0 ∷ 0 ∷ 0 ∷ 0 ∷ 12 ∷ 0 ∷ 24 ∷ 0 ∷ 16 ∷ 0 ∷ 18 ∷ 0 ∷ 4 ∷ 0 ∷ 8 ∷ 0 ∷ 0 ∷ 0 ∷ 0 ∷ 0 ∷ 16 ∷ 0 ∷ 0 ∷ 0 ∷ 36 ∷ 0 ∷ 0 ∷ 0 ∷ 96 ∷ 0 ∷ 0 ∷ 0 ∷ 0 ∷ 0 ∷ 0 ∷ 0 ∷ 4 ∷ 0 ∷ 3 ∷ 0 ∷ 0 ∷ 0 ∷ 0 ∷ 0 ∷ 10 ∷ 0 ∷ 24 ∷ 0 ∷ 8 ∷ 0 ∷ 16 ∷ 0 ∷ 20 ∷ 0 ∷ 0 ∷ 0 ∷ 0 ∷ 0 ∷ 0 ∷ 0 ∷ 16 ∷ 0 ∷ 0 ∷ 0 ∷ 0 ∷ 0 ∷ 0 ∷ 0 ∷ 8 ∷ 0 ∷ 0 ∷ 0 ∷ 0 ∷ 0 ∷ 0 ∷ 0 ∷ 12 ∷ 0 ∷ 0 ∷ 0 ∷ 32 ∷ 0 ∷ 0 ∷ 0 ∷ 0 ∷ 0 ∷ 0 ∷ 0 ∷ 1 ∷ 0 ∷ 0 ∷ 0 ∷ 8 ∷ 0 ∷ 0 ∷ 0 ∷ 0 ∷ 0 ∷ 0 ∷ 0 ∷ 0 ∷ 0 ∷ 0 ∷ 0 ∷ 0 ∷ 0 ∷ 0 ∷ 0 ∷ 0 ∷ 0 ∷ 0 ∷ 0 ∷ 2 ∷ 0 ∷ 0 ∷ 0 ∷ 0 ∷ 0 ∷ 0 ∷ 0 ∷ 0 ∷ 0 ∷ 0 ∷ 0 ∷ 0 ∷ 0 ∷ 0 ∷ 0 ∷ 0 ∷ 0 ∷ 0 ∷ 0 ∷ 0 ∷ 0 ∷ 0 ∷ 0 ∷ 0 ∷ 0 ∷ 0 ∷ 0 ∷ 32 ∷ 0 ∷ 0 ∷ 0 ∷ 0 ∷ 0 ∷ 0 ∷ 0 ∷ []

abbrev pub schema_bytes : List ℕ
schema_bytes = 24 ∷ 0 ∷ 0 ∷ 0 ∷ 0 ∷ 0 ∷ 0 ∷ 0 ∷ 12 ∷ 0 ∷ 24 ∷ 0 ∷ 4 ∷ 0 ∷ 6 ∷ 0 ∷ 8 ∷ 0 ∷ 16 ∷ 0 ∷ 0 ∷ 0 ∷ 0 ∷ 0 ∷ 16 ∷ 0 ∷ 0 ∷ 0 ∷ 4 ∷ 0 ∷ 1 ∷ 0 ∷ 24 ∷ 0 ∷ 0 ∷ 0 ∷ 0 ∷ 0 ∷ 0 ∷ 0 ∷ 0 ∷ 0 ∷ 0 ∷ 0 ∷ 0 ∷ 0 ∷ 0 ∷ 0 ∷ 8 ∷ 0 ∷ 8 ∷ 0 ∷ 0 ∷ 0 ∷ 4 ∷ 0 ∷ 8 ∷ 0 ∷ 0 ∷ 0 ∷ 4 ∷ 0 ∷ 0 ∷ 0 ∷ 1 ∷ 0 ∷ 0 ∷ 0 ∷ 20 ∷ 0 ∷ 0 ∷ 0 ∷ 14 ∷ 0 ∷ 20 ∷ 0 ∷ 4 ∷ 0 ∷ 8 ∷ 0 ∷ 9 ∷ 0 ∷ 12 ∷ 0 ∷ 16 ∷ 0 ∷ 0 ∷ 0 ∷ 16 ∷ 0 ∷ 0 ∷ 0 ∷ 16 ∷ 0 ∷ 0 ∷ 0 ∷ 1 ∷ 5 ∷ 0 ∷ 0 ∷ 28 ∷ 0 ∷ 0 ∷ 0 ∷ 40 ∷ 0 ∷ 0 ∷ 0 ∷ 1 ∷ 0 ∷ 0 ∷ 0 ∷ 120 ∷ 0 ∷ 0 ∷ 0 ∷ 0 ∷ 0 ∷ 0 ∷ 0 ∷ 4 ∷ 0 ∷ 4 ∷ 0 ∷ 0 ∷ 0 ∷ 0 ∷ 0 ∷ 8 ∷ 0 ∷ 0 ∷ 0 ∷ 0 ∷ 0 ∷ 0 ∷ 0 ∷ 6 ∷ 0 ∷ 16 ∷ 0 ∷ 8 ∷ 0 ∷ 0 ∷ 0 ∷ 8 ∷ 0 ∷ 0 ∷ 0 ∷ 0 ∷ 0 ∷ 0 ∷ 0 ∷ 3 ∷ 0 ∷ 0 ∷ 0 ∷ 0 ∷ 0 ∷ 0 ∷ 0 ∷ []

pub record FlatCase : Type 0 where
  pub told : flat_meaning batch_bytes ≡ Some (record {
    version = pos 4;
    body = pos 96;
    contents = batch (record {
      long = pos 8;
      compressed = false;
      missing = false;
      nodes = record { length = pos 8; nulls = pos 0 } ∷ [];
      buffers = record { offset = pos 0; length = pos 0 } ∷ record { offset = pos 0; length = pos 32 } ∷ [];
      counts = [];
    });
  })
  pub rows : flat_meaning schema_bytes ≡ Some (record {
    version = pos 4;
    body = pos 0;
    contents = schema (
        record { kind = 13; flag = 1; tag = 0; parameter = 4; id = pos 3; end = 2 }
        ∷ record { kind = 4; flag = 1; tag = 0; parameter = 0; id = pos 0; end = 2 }
        ∷ []
        );
  })
  pub short : flat_meaning (take 20 schema_bytes) ≡ None

-- U+0061, U+00E9, U+20AC and U+1F9E9; U+0000 in two bytes; a surrogate, U+D800; U+110000; a character cut short; a byte that only goes on
pub record TextCase : Type 0 where
  pub whole : well_formed (0x61 ∷ 0xc3 ∷ 0xa9 ∷ 0xe2 ∷ 0x82 ∷ 0xac ∷ 0xf0 ∷ 0x9f ∷ 0xa7 ∷ 0xa9 ∷ []) ≡ true
  pub long : well_formed (0xc0 ∷ 0x80 ∷ []) ≡ false
  pub surrogate : well_formed (0xed ∷ 0xa0 ∷ 0x80 ∷ []) ≡ false
  pub above : well_formed (0xf4 ∷ 0x90 ∷ 0x80 ∷ 0x80 ∷ []) ≡ false
  pub cut : well_formed (0xe2 ∷ 0x82 ∷ []) ≡ false
  pub alone : well_formed (0x80 ∷ []) ≡ false

abbrev pub Examples : Type 0
Examples = Ends × Frames × SlipCase × FlatCase × TextCase

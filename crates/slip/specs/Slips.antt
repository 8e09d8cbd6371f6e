-- The slip form of metadata: lists, and behind them a trailer of 64 bytes that says where they are.
use Rattle.std.specs.Prelude.{ℕ, ◌+◌, ◌-◌, ◌*◌, Bool, true, false, cond, ◌&&◌, List, [], length, take, drop, Some, None, Option, ◌==◌, nat_le}
use Rattle.std.proofs.Common.{to_z}
use Rattle.std.specs.Int.{w16, w64}
use Rattle.little.specs.Maybe.{and_then}
use Rattle.little.specs.Numbers.{number_in}
use Rattle.message.specs.Items.{rows_in, nodes_in, buffers_in, counts_in}
use Rattle.message.specs.Messages.{Columns, Contents, nothing, schema, dictionary, batch, other, Message, Read}

-- the trailer is the last 64 bytes
abbrev pub trailer : List ℕ → ℕ
trailer bs = length bs - 64

-- the trailer's number of n bytes, `at` bytes from its first
abbrev pub told : ℕ → List ℕ → ℕ → ℕ
told n bs at = number_in n bs (trailer bs + at)

-- bytes are a slip when there is a trailer, it ends in the ASCII bytes SLP1, and delta is 0 or 1
abbrev pub slip : List ℕ → Bool
slip bs = nat_le 64 (length bs) && (told 4 bs 60 == 0x31504c53 && nat_le (told 1 bs 3) 1)

-- one of the four lists, by its place in the trailer: a count of items, and how far before the trailer it begins;
-- it lies wholly before the trailer, and a list of no items looks at no distance
abbrev pub list_at : ℕ → List ℕ → ℕ → Option (List ℕ)
list_at width bs at =
    let count = told 4 bs at in
    let back = told 4 bs (at + 4) in
    elim (count == 0) [
      | true ↦ Some []
      | false ↦ elim (nat_le back (trailer bs) && nat_le (count * width) back) [
        | true ↦ Some (take (count * width) (drop (trailer bs - back) bs))
        | false ↦ None
      ]
    ]

-- the four lists: rows, nodes, buffers and counts, each as the bytes that it fills
pub record Lists : Type 0 where
  pub rows : List ℕ
  pub nodes : List ℕ
  pub buffers : List ℕ
  pub counts : List ℕ

abbrev pub lists_of : List ℕ → Option Lists
lists_of bs =
    and_then (list_at 24 bs 28) (λ rows.
    and_then (list_at 16 bs 36) (λ nodes.
    and_then (list_at 16 bs 44) (λ buffers.
    and_then (list_at 8 bs 52) (λ counts.
    Some (record { rows = rows; nodes = nodes; buffers = buffers; counts = counts })))))

-- a batch has no marks in this form
abbrev pub columns_of : List ℕ → Lists → Columns
columns_of bs l = record {
  long = to_z w64 (told 8 bs 12);
  compressed = false;
  missing = false;
  nodes = nodes_in l.nodes;
  buffers = buffers_in l.buffers;
  counts = counts_in l.counts;
}

-- by the header type
abbrev pub contents_of : List ℕ → Lists → Contents
contents_of bs l =
    let type = told 1 bs 2 in
    cond (type == 0) nothing
    (cond (type == 1) (schema (rows_in l.rows))
    (cond (type == 2) (dictionary (to_z w64 (told 8 bs 20)) (told 1 bs 3 == 1) (columns_of bs l))
    (cond (type == 3) (batch (columns_of bs l))
    (other type))))

abbrev pub message_of : List ℕ → Lists → Message
message_of bs l = record { version = to_z w16 (told 2 bs 0); body = to_z w64 (told 8 bs 4); contents = contents_of bs l }

-- the lists of bytes that are a slip: all four are looked at, whatever the header type
unfoldable pub slip_lists : List ℕ → Option Lists
slip_lists bs = elim (slip bs) [ true ↦ lists_of bs | false ↦ None ]

-- what a slip says
unfoldable pub slip_meaning : List ℕ → Read
slip_meaning bs = and_then (slip_lists bs) (λ l. Some (message_of bs l))

-- Reading the columns of a message: the first refusal, in reading order.
use Rattle.std.specs.Prelude.{ℕ, zero, suc, ◌+◌, Bool, true, false, cond, not, ◌||◌, List, length, ℤ, pos, Some, None, Option, nat_le, slice_index_or}
use Rattle.std.specs.List.{slice_get}
use Rattle.message.specs.declared.faults.Fault.{Fault}
use Rattle.message.specs.declared.faults.Place.{Place}
use Rattle.message.specs.declared.faults.Refusal.{Refusal}
use Rattle.message.specs.declared.faults.Refusal.TheVariants.{NoNode, NodeRange, ViewCount, NoBuffer, BufferRange, Rule}
use Rattle.message.specs.declared.items.Buffer.{Buffer}
use Rattle.message.specs.declared.items.Node.{Node}
use Rattle.schemas.specs.declared.kinds.Kind.{Kind}
use Rattle.schemas.specs.Schemas.{Fields, none, field, size}
use Rattle.schemas.specs.Takings.{Taken, buffers_of, natural, takes_of, kind_of, after}
use Rattle.schemas.specs.Queues.{is_view}
use Rattle.columns.specs.Entries.{indexed, entry_count}
use Rattle.columns.specs.Looks.{Sight, node_fits, inside, data_count, Look, look}
use Rattle.columns.specs.Rules.{broken_at}

-- what is refused of a message: its number, and for a column its row; for a rule the slot, or the column's length
pub record Broken : Type 0 where
  pub refusal : Refusal
  pub row : Option ℕ
  pub index : Option ℕ

abbrev pub plainly : Refusal → Broken
plainly r = record { refusal = r; row = None; index = None }

abbrev pub in_row : ℕ → Refusal → Broken
in_row k r = record { refusal = r; row = Some k; index = None }

abbrev pub rule_broken : ℕ → ℕ → Broken
rule_broken k i = record { refusal = Rule; row = Some k; index = Some i }

-- the same with the place of its frame
abbrev pub fault_at : Place → Broken → Fault
fault_at p b = record { refusal = b.refusal; place = Some p; row = b.row; index = b.index }

-- the first of two, the second only where there is no first
abbrev pub or_else : Option Broken → (Unit {0} → Option Broken) → Option Broken
or_else None later = later tt
or_else (Some b) later = Some b

abbrev pub unless_kept : Bool → Broken → Option Broken
unless_kept true b = None
unless_kept false b = Some b

-- the node of row k: there, and of a row that is decoded in bounds
abbrev pub node_by : Bool → ℕ → Kind → Option Node → Option Broken
node_by shown k kind None = Some (in_row k NoNode)
node_by shown k kind (Some n) = unless_kept (not shown || node_fits kind n) (in_row k NodeRange)

abbrev pub node_fault : Sight → Bool → ℕ → Kind → Taken → Option Broken
node_fault s shown k kind t = node_by shown k kind (slice_get s.nodes t.nodes)

abbrev pub buffer_by : List ℕ → Bool → ℕ → Option Buffer → Option Broken
buffer_by body shown k None = Some (in_row k NoBuffer)
buffer_by body shown k (Some b) = unless_kept (not shown || inside body b) (in_row k BufferRange)

-- so many buffers from number n on: each there, and of a row that is decoded inside the body, read or not
abbrev pub buffers_fault : Sight → Bool → ℕ → ℕ → ℕ → Option Broken
buffers_fault s shown k n zero = None
buffers_fault s shown k n (suc more) = or_else (buffer_by s.body shown k (slice_get s.buffers n)) (λ _. buffers_fault s shown k (n + 1) more)

abbrev pub count_by : ℕ → ℕ → ℕ → Option ℕ → Option Broken
count_by k taken there None = Some (in_row k ViewCount)
count_by k taken there (Some c) = unless_kept (nat_le (taken + (c + 2)) there) (in_row k ViewCount)

-- the count of a view: there, not below 0, and with as many buffers left
abbrev pub count_fault : Sight → ℕ → Taken → Option Broken
count_fault s k t = count_by k t.buffers (length s.buffers) (data_count true s.counts t.counts)

abbrev pub own_buffers : Sight → ℤ → Bool → ℕ → Kind → Taken → Option Broken
own_buffers s version shown k kind t = buffers_fault s shown k t.buffers (buffers_of version (natural (slice_index_or s.counts t.counts (pos 0))) kind)

-- what row k takes: its node, then its buffers; a view that is decoded its count, its buffers and then its node, and
-- one that is skipped its node first
abbrev pub takes_fault : Sight → ℤ → Bool → ℕ → Kind → Bool → Taken → Option Broken
takes_fault s version true k kind true t = or_else (count_fault s k t) (λ _. or_else (own_buffers s version true k kind t) (λ _. node_fault s true k kind t))
takes_fault s version false k kind true t = or_else (node_fault s false k kind t) (λ _. or_else (count_fault s k t) (λ _. own_buffers s version false k kind t))
takes_fault s version true k kind false t = or_else (node_fault s true k kind t) (λ _. own_buffers s version true k kind t)
takes_fault s version false k kind false t = or_else (node_fault s false k kind t) (λ _. own_buffers s version false k kind t)

abbrev pub row_fault : Sight → ℤ → Bool → ℕ → Option Kind → Taken → Option Broken
row_fault s version shown k None t = None
row_fault s version shown k (Some kind) t = takes_fault s version shown k kind (is_view kind) t

abbrev pub rule_at : ℕ → Option ℕ → Option Broken
rule_at k None = None
rule_at k (Some i) = Some (rule_broken k i)

abbrev pub rule_by : Sight → ℕ → Option Look → Option Broken
rule_by s k None = Some (rule_broken k 0)
rule_by s k (Some l) = rule_at k (broken_at s l)

-- the rules of row k, which is decoded to entry e
abbrev pub rule_fault : Sight → Bool → ℕ → ℕ → Option Broken
rule_fault s true k e = rule_by s k (look s e)
rule_fault s false k e = None

abbrev pub unless_fault : Bool → (Unit {0} → Option Broken) → Option Broken
unless_fault true later = None
unless_fault false later = later tt

-- fields side by side, whose first is row k and, where they are shown, entry e: what each takes, then its children,
-- each whole before the next, and then its rules
abbrev pub fields_fault : Sight → ℤ → Bool → ℕ → ℕ → Fields → Taken → Option Broken
fields_fault s version shown k e none t = None
fields_fault s version shown k e (field r kids next) t =
    or_else (row_fault s version shown k (kind_of r) t) (λ _.
    or_else (unless_fault (indexed r) (λ _. fields_fault s version shown (k + 1) (e + 1) kids (takes_of version s.counts (kind_of r) t))) (λ _.
    or_else (rule_fault s shown k e) (λ _.
    fields_fault s version shown (k + 1 + size kids) (e + entry_count (field r kids none)) next (after version s.counts (field r kids none) t))))

-- the columns of a batch, each shown or skipped; the first field is column c, row k and entry e
abbrev pub columns_fault : Sight → ℤ → (ℕ → Bool) → ℕ → ℕ → ℕ → Fields → Taken → Option Broken
columns_fault s version shown c k e none t = None
columns_fault s version shown c k e (field r kids next) t =
    or_else (fields_fault s version (shown c) k e (field r kids none) t) (λ _.
    columns_fault s version shown (c + 1) (k + 1 + size kids) (e + cond (shown c) (entry_count (field r kids none)) 0) next (after version s.counts (field r kids none) t))

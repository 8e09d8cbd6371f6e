use Rattle.std.proofs.Common.{refl}
use Rattle.little.specs.Numbers.{number_in, number_at}
use Rattle.message.specs.Listed.{listed}
use Rattle.framing.specs.Frames.{marks}
use Rattle.framing.specs.Streams.{first, frames, stream}
use Rattle.slip.specs.Slips.{slip_lists, slip_meaning}
use Rattle.tables.specs.Tables.{place_in, table_at, field_of, leads, vector_at, item_of}
use Rattle.types.specs.Types.{int_row, unit_row, decimal_row, time_row, binary_row, list_row, union_shape, table_shape, map_shape, shape_of}
use Rattle.fields.specs.Fields.{children_of, field_at, index_at}
use Rattle.fields.specs.Walks.{child_rows, rows_at, walk_at}
use Rattle.flatbuf.specs.Flat.{batch_at, contents_at, dictionary_at, flat_meaning, head_at, header_table, schema_at, vector_of}
use Rattle.schemas.specs.Schemas.{parse, admits}
use Rattle.columns.specs.Looks.{look}
use Rattle.columns.specs.Slots.{slot}
use Rattle.columns.specs.Cells.{cell_at}
use Rattle.feeds.specs.Messages.{batch_fault, values_fault, act}
use Rattle.feeds.specs.Streams.{feed}
use Rattle.examples.specs.Lines.{spelled, trace}
use Rattle.examples.specs.Cases.{Ends, Frames, SlipCase, FlatCase, TextCase}
use Rattle.examples.specs.Admitted.{Headers, Admitted}
use Rattle.examples.specs.Taken.{Taken, Chosen}
use Rattle.examples.specs.Slots.{Texts, Views}
use Rattle.examples.specs.Nests.{Nests, Unions}
use Rattle.examples.specs.Dictionaries.{Dictionaries, Indices}
use Rattle.examples.specs.Numbers.{Signs, Reaches, Widths}
use Rattle.examples.specs.Orders.{Orders, Departs}
use Rattle.examples.specs.Feeds.{Questions, Fed}
use Rattle.examples.specs.Recorded.{Recorded}
use Rattle.examples.proofs.examples_stand.Goals as goal

ends : Ends
unfolding stream frames first marks number_in slip_lists slip_meaning
ends = record { mark = refl; behind = refl; long = refl; none = refl; half = refl }

framed : Frames
unfolding stream frames first marks number_in slip_lists slip_meaning
framed = record { whole = refl; cut = refl; large = refl; unread = refl }

slip : SlipCase
unfolding number_in slip_lists slip_meaning listed
slip = record { told = refl; short = refl }

flat : FlatCase
unfolding number_in number_at listed place_in table_at field_of leads vector_at item_of int_row map_shape shape_of table_shape union_shape unit_row children_of field_at index_at child_rows walk_at batch_at contents_at flat_meaning head_at header_table rows_at schema_at vector_of
flat = record { told = refl; rows = refl; short = refl }

text : TextCase
text = record { whole = refl; long = refl; surrogate = refl; above = refl; cut = refl; alone = refl }

headers : Headers
unfolding number_in parse admits look slot cell_at batch_fault values_fault act
headers = record { passes = refl; above = refl; batch_first = refl; values_first = refl; second = refl; no_rows = refl }

admitted : Admitted
unfolding number_in parse admits look slot cell_at batch_fault values_fault act
admitted = record { unknown = refl; above = refl; flag = refl; width0 = refl; width1024 = refl; width1025 = refl; size = refl; size_above = refl; childless = refl; two_children = refl; beyond = refl; overlap = refl; backward = refl; values = refl; view_values = refl; null_values = refl; index_width = refl; apart = refl; alike = refl; tag128 = refl; children127 = refl; children128 = refl; empty_union = refl; empty_struct = refl; deep16 = refl; deep17 = refl; rows256 = refl; rows257 = refl }

taken : Taken
unfolding number_in parse admits look slot cell_at batch_fault values_fault act
taken = record { one_absent = refl; two_absent = refl; unread_validity = refl; marked = refl; missing = refl; nodes_above = refl; counts_above = refl; no_node = refl; node_first = refl; no_buffer = refl; nulls = refl; long = refl; longest = refl; negative = refl; null_column = refl; node_before_buffer = refl; outside = refl; before = refl; length_below_zero = refl; outside_first = refl; reach = refl; unreached = refl; count_left = refl; count_before = refl; unlike = refl; below_zero = refl; batch_longest = refl; batch_above = refl }

chosen : Chosen
unfolding number_in parse admits look slot cell_at batch_fault values_fault act
chosen = record { thrice = refl; last = refl; none = refl; unnamed = refl; unnamed_later = refl; unnamed_first = refl; skipped_anything = refl; skipped_no_buffer = refl }

texts : Texts
unfolding number_in parse admits look slot cell_at batch_fault values_fault act
texts = record { cat = refl; falling = refl; beyond = refl; not_text = refl; bytes = refl }

views : Views
unfolding number_in parse admits look slot cell_at batch_fault values_fault act
views = record { count0 = refl; count1 = refl; below0 = refl; no_count = refl; short = refl; not_zero = refl; long = refl; prefix = refl; number = refl; beyond = refl; count_before_node = refl; buffer_before_node = refl; node_last = refl; skipped_node = refl; skipped_count = refl; skipped = refl }

nests : Nests
unfolding number_in parse admits look slot cell_at batch_fault values_fault act
nests = record { list = refl; list_beyond = refl; large = refl; view = refl; view_beyond = refl; view_negative = refl; view_absent = refl; large_view = refl; fixed = refl; fixed_short = refl; fixed_none = refl; struct = refl; struct_unlike = refl; struct_empty = refl; child_first = refl }

unions : Unions
unfolding number_in parse admits look slot cell_at batch_fault values_fault act
unions = record { four = refl; five = refl; later = refl; below_zero = refl; four_of3 = refl; five_of4 = refl; unread_outside = refl; tag = refl; tag_below_zero = refl; offset = refl; offset_below_zero = refl; sparse = refl; sparse3 = refl; sparse_unlike = refl; childless = refl; childless_slot = refl }

dictionaries : Dictionaries
unfolding number_in parse admits look slot cell_at batch_fault values_fault act
dictionaries = record { fits = refl; again = refl; too_long = refl; grows = refl; delta = refl; delta_first = refl; keeps_place = refl; ids64 = refl; ids65 = refl; bits = refl; first_row = refl; no_such_id = refl; value_row = refl; unlike = refl; left = refl; unchosen = refl }

indices : Indices
unfolding number_in parse admits look slot cell_at batch_fault values_fault act
indices = record { found = refl; absent_value = refl; absent_slot = refl; beyond = refl; below_zero = refl; none_held = refl; none_asked = refl; shared = refl; unlike = refl; unlike_not_held = refl }

signs : Signs
unfolding number_in parse admits look slot cell_at batch_fault values_fault act
signs = record { list = refl; list_view = refl; view_length = refl; view_buffer = refl; view_offset = refl; view_neither = refl }

reaches : Reaches
unfolding number_in parse admits look slot cell_at batch_fault values_fault act
reaches = record { validity = refl; bits = refl; binary = refl; large_binary = refl; view = refl; list = refl; large_list = refl; list_view_offsets = refl; list_view_sizes = refl; large_view_offsets = refl; large_view_sizes = refl; indices = refl; sparse = refl; dense_ids = refl; dense_offsets = refl }

widths : Widths
unfolding number_in parse admits look slot cell_at batch_fault values_fault act
widths = record { unsigned = refl; unsigned_beyond = refl; signed = refl; below_zero = refl }

questions : Questions
unfolding number_in parse admits look slot cell_at batch_fault values_fault act
questions = record { absent_slot = refl; text = refl; no_entry = refl; no_slot = refl; offset = refl; other_offset = refl; not_text = refl; outside = refl; validity = refl }

fed : Fed
unfolding number_in parse admits look slot cell_at batch_fault values_fault act listed slip_lists slip_meaning marks first frames stream feed trace
fed = record { mark = refl; behind = refl; long = refl; no_bytes = refl; schema_only = refl; short = refl; then_mark = refl; then_half = refl; twice = refl; header = refl; header_at_body = refl; body_above = refl; body_below_zero = refl; unread = refl }

orders : Orders
unfolding number_in parse admits look slot cell_at batch_fault values_fault act
orders = record { schema_before_mark = refl; schema_before_id = refl; id_before_mark = refl; mark_before_lists = refl; lists_before_columns = refl; length_before_delta = refl }

departs : Departs
unfolding number_in parse admits look slot cell_at batch_fault values_fault act
departs = record { absent_text = refl; present_text = refl; left_over = refl; union_nulls = refl; dense_any_order = refl }

recorded : Recorded
unfolding number_in number_at listed place_in table_at field_of leads vector_at item_of int_row unit_row decimal_row time_row binary_row list_row union_shape table_shape map_shape shape_of children_of index_at field_at child_rows walk_at rows_at slip_lists slip_meaning vector_of batch_at dictionary_at schema_at head_at header_table contents_at flat_meaning marks first frames stream parse admits look slot cell_at batch_fault values_fault act feed spelled trace
recorded = record { compressed = refl; node_missing = refl; null_count = refl; rule = refl; unnamed = refl; unlike = refl; large = refl; unread = refl; two_schemas = refl; no_schema = refl; union = refl; lists = refl; clues_in_flat_buffers = refl; clues_in_slips = refl }

pub returns : goal.returns
returns c = record {
  streams = (ends, framed, slip, flat, text);
  feeds = (
    (headers, admitted, taken, chosen, texts, views, nests, unions, dictionaries, indices, signs, reaches, widths, orders, departs, questions),
    (fed, recorded),
  );
}

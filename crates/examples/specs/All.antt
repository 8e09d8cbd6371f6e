-- More examples: messages; whole feeds.
use Rattle.examples.specs.Admitted.{Headers, Admitted}
use Rattle.examples.specs.Taken.{Taken, Chosen}
use Rattle.examples.specs.Slots.{Texts, Views}
use Rattle.examples.specs.Nests.{Nests, Unions}
use Rattle.examples.specs.Dictionaries.{Dictionaries, Indices}
use Rattle.examples.specs.Numbers.{Signs, Reaches, Widths}
use Rattle.examples.specs.Orders.{Orders, Departs}
use Rattle.examples.specs.Feeds.{Questions, Fed}
use Rattle.examples.specs.Recorded.{Recorded}

abbrev pub MoreExamples : Type 0
MoreExamples =
    (Headers × Admitted × Taken × Chosen × Texts × Views × Nests × Unions × Dictionaries × Indices × Signs × Reaches × Widths × Orders × Departs × Questions)
    × (Fed × Recorded)

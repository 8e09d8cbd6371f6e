-- A run of calls on a feed and its memories goes by where the feed stands, and is lawful.
use Rattle.std.proofs.Common.{◌≡◌, ℕ, Bool, true, false, List, [], ◌∷◌, ◌++◌, length, take, drop, ℤ, Some, None, Ok, Err, Option, Result, sym, refl, ap, ◌∙◌, subst, append_assoc, arith, take-append-drop}
use Rattle.std.proofs.lemmas.List.{take_at, drop_at}
use Rattle.message.specs.declared.faults.Fault.{Fault}
use Rattle.message.specs.declared.faults.Place.{Place}
use Rattle.message.specs.declared.faults.Refusal.TheVariants.{ChoiceLength, Lengths}
use Rattle.message.specs.declared.items.Buffer.{Buffer}
use Rattle.message.specs.declared.items.Node.{Node}
use Rattle.message.specs.Faults.{bare}
use Rattle.message.specs.Messages.{Read}
use Rattle.framing.specs.Frames.{Shown, frame, end}
use Rattle.framing.specs.Moves.{Moved, on, shows, refuses, Went, quiet, showed, refused, went_on, goes}
use Rattle.framing.specs.Steps.{Stand, header, metadata, body, ended, stopped, step}
use Rattle.dictionaries.specs.Areas.{Area, packed, held_in}
use Rattle.dictionaries.specs.Places.{Held}
use Rattle.columns.specs.declared.entries.Column.{Column}
use Rattle.columns.specs.Looks.{Sight}
use Rattle.columns.specs.Slots.{Cell}
use Rattle.columns.specs.Cells.{cell_at}
use Rattle.columns.specs.Extended.{extended}
use Rattle.columns.proofs.Extends.{cells_front}
use Rattle.feeds.specs.Messages.{Terms, Kept, Batch, Outcome, refuses as refuses_it, keeps, shows as shows_it}
use Rattle.feeds.specs.Streams.{Meaning, envelope, holds_of, act_read, act_frame}
use Rattle.feeds.specs.Steps.{State, Move, acted, shown_frame, moved_by, feed_step, fed_by, fed}
use Rattle.feeds.specs.Calls.{Memories, Own, Feed, in_bounds, few_numbers, opening, opened, Fed, leaves, Front, Shown as ShownIn, ShownBatch, Holds, Feeds, Cells, barely, cell_of, recut, sight_in, cell_in}
use Rattle.feeds.specs.Runs.{Question, piece_other, place, cell, cell_other, finish, schema_row, Call, feeds, asks, Asks, Runs, Shows, CellStands, Unstuck, NeverStuck}
use Rattle.feeds.specs.Promises.{Lawful}
use Rattle.feeds.proofs.Told.{steps_tell}
use Rattle.feeds.proofs.Sound.{Sound, Good, act_good, sound_answers}
use Rattle.feeds.proofs.Shown.{FollowsBy, Follows, shows_run}

-- a batch whose rules hold, which is looked at through the dictionaries that are kept
abbrev SaneBatch : Option Batch → Kept → Type 0
SaneBatch None k = Unit {0}
SaneBatch (Some b) k = Sound b.sight × (b.sight.held ≡ held_in k.areas)

abbrev Sane : Feed → Type 0
Sane f = SaneBatch f.batch f.state.kept

abbrev SaneMove : Move → Type 0
SaneMove (on u) = Unit {0}
SaneMove (shows b u) = SaneBatch (Some b) u.kept
SaneMove (refuses f u) = Unit {0}

abbrev SaneWent : Went State Batch Fault → Type 0
SaneWent (quiet u) = Unit {0}
SaneWent (showed b u rest) = SaneBatch (Some b) u.kept
SaneWent (refused f u) = Unit {0}

module _ (t : Terms) (m : Meaning) where
  acted_sane : (k : Kept) (p : Place) (s : Stand) (o : Outcome) → Good t k o → SaneMove (acted k p s o)
  acted_sane k p s (refuses_it b) good = tt
  acted_sane k p s (keeps k') good = tt
  acted_sane k p s (shows_it k' b) good = (good.1, good.2)

  read_good : (k : Kept) (bytes : List ℕ) (r : Read) → Good t k (act_read t k bytes r)
  read_good k bytes None = tt
  read_good k bytes (Some x) = act_good t k x bytes

  shown_sane : (k : Kept) (s : Stand) (x : Shown) → SaneMove (shown_frame t m k s x)
  shown_sane k s (frame f) = acted_sane k f.place s (act_frame t m k f) (read_good k f.body (m f.metadata))
  shown_sane k s (end p) = tt

  moved_sane : (k : Kept) (v : Moved Stand Shown Fault) → SaneMove (moved_by t m k v)
  moved_sane k (on s) = tt
  moved_sane k (shows x s) = shown_sane k s x
  moved_sane k (refuses f s) = tt

  went_sane : (xs : List ℕ) (v : Move) → SaneMove v → ((u : State) → SaneWent (goes (feed_step t m) u xs)) → SaneWent (went_on xs (λ u. goes (feed_step t m) u xs) v)
  went_sane xs (on u) sane ih = ih u
  went_sane xs (shows b u) sane ih = sane
  went_sane xs (refuses f u) sane ih = tt

  goes_sane : (xs : List ℕ) (u : State) → SaneWent (goes (feed_step t m) u xs)
  unfolding goes feed_step
  goes_sane [] u = tt
  goes_sane (x ∷ xs) u = went_sane xs (feed_step t m u x) (moved_sane u.kept (step (holds_of t) (envelope m) u.stand x)) (goes_sane xs)

  fed_sane : (k : Kept) (p : List ℕ) (s : Stand) → SaneWent (fed_by t m k p s)
  fed_sane k p (header q got) = goes_sane p _
  fed_sane k p (metadata q marked n got) = goes_sane p _
  fed_sane k p (body q marked meta facts n got) = goes_sane p _
  fed_sane k p (ended q) = goes_sane p _
  fed_sane k p (stopped f) = tt

leaves_sane : (t : Terms) (w : Went State Batch Fault) → SaneWent w → Sane (leaves t w)
leaves_sane t (quiet u) sane = tt
leaves_sane t (showed b u rest) sane = sane
leaves_sane t (refused f u) sane = tt

leaves_terms : (t : Terms) (w : Went State Batch Fault) → (leaves t w).terms ≡ t
leaves_terms t (quiet u) = refl
leaves_terms t (showed b u rest) = refl
leaves_terms t (refused f u) = refl

-- what a memory holds at its front, and something behind it
front_is : {A : Type 0} (xs ys : List A) → Front xs ys → ys ≡ xs ++ drop (length xs) ys
front_is xs ys h = sym (take-append-drop (length xs) ys) ∙ ap (λ l. l ++ drop (length xs) ys) h

-- areas that are cut again from the bytes that they were packed into
recut_is : (all : List Area) (more : List ℕ) → recut all (packed all ++ more) ≡ all
recut_is [] more = refl
recut_is (a ∷ rest) more =
    let e = append_assoc a.bytes (packed rest) more in
    let own : take (length a.bytes) (a.bytes ++ packed rest ++ more) ≡ a.bytes = ap (take (length a.bytes)) e ∙ take_at a.bytes (packed rest ++ more) (length a.bytes) refl in
    let later : drop (length a.bytes) (a.bytes ++ packed rest ++ more) ≡ packed rest ++ more = ap (drop (length a.bytes)) e ∙ drop_at a.bytes (packed rest ++ more) (length a.bytes) refl in
    ap (λ bs. record { id = a.id; count = a.count; bytes = bs } ∷ recut rest (drop (length a.bytes) (a.bytes ++ packed rest ++ more))) own
    ∙ ap (λ l. a ∷ l) (ap (recut rest) later ∙ recut_is rest more)

store_says : (k : Kept) (bytes : List ℕ) → Front (packed k.areas) bytes → recut k.areas bytes ≡ k.areas
store_says k bytes front = ap (recut k.areas) (front_is (packed k.areas) bytes front) ∙ recut_is k.areas (drop (length (packed k.areas)) bytes)

module _ (k : Kept) (mem : Memories) (b : Batch) (sane : SaneBatch (Some b) k) (front : Front (packed k.areas) mem.store) (there : ShownIn b mem) where
  abbrev s : Sight
  s = b.sight

  abbrev sight_with : List Node → List Buffer → List ℤ → List Column → List ℕ → Held → Sight
  sight_with ns bs cs es bytes held = record { fields = s.fields; nodes = ns; buffers = bs; counts = cs; columns = es; body = bytes; held = held }

  sight_is : sight_in k mem b ≡ extended s (drop (length s.nodes) mem.nodes) (drop (length s.buffers) mem.buffers) (drop (length s.counts) mem.counts) (drop (length s.body) mem.body)
  sight_is = λ j. sight_with
      (front_is s.nodes mem.nodes there.nodes j)
      (front_is s.buffers mem.buffers there.buffers j)
      (front_is s.counts mem.counts there.counts j)
      (there.columns j)
      (front_is s.body mem.body there.body j)
      ((ap held_in (store_says k mem.store front) ∙ sym sane.1) j)

  sight_cells : (e i : ℕ) → cell_at (sight_in k mem b) e i ≡ cell_at s e i
  sight_cells e i = ap (λ x. cell_at x e i) sight_is ∙ cells_front s _ _ _ _ sane.0 e i

-- the memories give a batch's own answers
own_cells : (k : Kept) (mem : Memories) (o : Option Batch) (e i : ℕ) → SaneBatch o k → Front (packed k.areas) mem.store → ShownBatch o mem → cell_in k mem o e i ≡ cell_of o e i
own_cells k mem None e i sane front there = refl
own_cells k mem (Some b) e i sane front there = sight_cells k mem b sane front there e i

stands_at : (o : Option Batch) (k : Kept) (e i : ℕ) (r : Result Cell Fault) → SaneBatch o k → r ≡ barely (cell_of o e i) → CellStands o e i r
stands_at None k e i r sane is = tt
stands_at (Some b) k e i r sane is = λ range.
    let a = sound_answers b.sight sane.0 e i range in
    (a.cell, is ∙ ap barely a.answer, a.points)

-- where a feed and its memories are in order
pub record Ready (f : Feed) (mem : Memories) : Type 0 where
  pub own : Own f.terms mem
  pub holds : Holds f mem
  pub sane : Sane f

module _ (m : Meaning) where
  -- a piece leaves them in order
  ready_fed : (f : Feed) (mem : Memories) (p : List ℕ) (r : Result Fed Fault) (f' : Feed) (mem' : Memories) → Ready f mem → Feeds m f mem p r f' mem' → Ready f' mem'
  ready_fed f mem p r f' mem' ready fd =
      let came = fd.own ready.own ready.holds in
      let w = fed f.terms m f.state p in
      let terms : f'.terms ≡ f.terms = ap (λ x. x.terms) came.feed ∙ leaves_terms f.terms w in
      record {
        own = subst (λ x. Own x mem') (sym terms) came.own;
        holds = came.holds;
        sane = subst Sane (sym came.feed) (leaves_sane f.terms w (fed_sane f.terms m f.state.kept p f.state.stand));
      }

  own_cell : (f : Feed) (mem : Memories) (e i : ℕ) (r : Result Cell Fault) → Ready f mem → Cells f mem e i r → r ≡ barely (cell_of f.batch e i)
  own_cell f mem e i r ready asked = asked.own ready.own ∙ ap barely (own_cells f.state.kept mem f.batch e i ready.sane ready.holds.store ready.holds.batch)

  follows_by : (f : Feed) (mem : Memories) (q : Question) → Ready f mem → Asks m f mem q → FollowsBy f q
  follows_by f mem (piece_other p r) ready asked = (asked.4.other asked.3).0
  follows_by f mem (place j r) ready asked = asked
  follows_by f mem (cell e i r) ready asked = own_cell f mem e i r ready asked
  follows_by f mem (cell_other e i r) ready asked = asked.2.other asked.1
  follows_by f mem (finish r) ready asked = asked
  follows_by f mem (schema_row k r) ready asked = asked

  unstuck_by : (f : Feed) (mem : Memories) (q : Question) → Ready f mem → Asks m f mem q → Unstuck f.batch q
  unstuck_by f mem (piece_other p r) ready asked = tt
  unstuck_by f mem (place j r) ready asked = tt
  unstuck_by f mem (cell e i r) ready asked = stands_at f.batch f.state.kept e i r ready.sane (own_cell f mem e i r ready asked)
  unstuck_by f mem (cell_other e i r) ready asked = tt
  unstuck_by f mem (finish r) ready asked = tt
  unstuck_by f mem (schema_row k r) ready asked = tt

  pub follows : (cs : List Call) (f : Feed) (mem : Memories) → Ready f mem → Runs m f mem cs → Follows m f cs
  follows [] f mem ready run = tt
  follows (feeds p r ∷ cs) f mem ready run =
      let came = run.2.own ready.own ready.holds in
      (came.answer, subst (λ x. Follows m x cs) came.feed (follows cs run.0 run.1 (ready_fed f mem p r run.0 run.1 ready run.2) run.3))
  follows (asks q ∷ cs) f mem ready run = (follows_by f mem q ready run.0, follows cs f mem ready run.1)

  pub unstuck : (cs : List Call) (f : Feed) (mem : Memories) → Ready f mem → (run : Runs m f mem cs) → NeverStuck m f mem cs run
  unstuck [] f mem ready run = tt
  unstuck (feeds p r ∷ cs) f mem ready run = unstuck cs run.0 run.1 (ready_fed f mem p r run.0 run.1 ready run.2) run.3
  unstuck (asks q ∷ cs) f mem ready run = (unstuck_by f mem q ready run.0, unstuck cs f mem ready run.1)

ready_open : (t : Terms) (mem : Memories) → Own t mem → Ready (opening t) mem
ready_open t mem own = record {
  own = own;
  holds = record { metadata = refl; body = refl; store = refl; batch = tt };
  sane = tt;
}

-- an opening that is accepted
pub opened_is : (t : Terms) (f : Feed) → opened t ≡ Ok f → f ≡ opening t
opened_is t f h = by (in_bounds t) (few_numbers t.choice) h where
  by : (a b : Bool) → elim a as (λ _. Result Feed Fault) [ true ↦ elim b as (λ _. Result Feed Fault) [ true ↦ Ok (opening t) | false ↦ Err (bare ChoiceLength) ] | false ↦ Err (bare Lengths) ] ≡ Ok f → f ≡ opening t
  by true true h = cc
  by true false h = let z : ◌≡◌ {A = ℕ} 0 1 = cc in absurd (omega arith)
  by false b h = let z : ◌≡◌ {A = ℕ} 0 1 = cc in absurd (omega arith)

opening_lawful : (t : Terms) → Lawful t (opening t)
opening_lawful t = record {
  unstuck = λ m mem own cs run. unstuck m cs (opening t) mem (ready_open t mem own) run;
  shown = λ m mem own cs run bytes gets.
      let all = shows_run m cs (opening t) bytes tt (follows m cs (opening t) mem (ready_open t mem own) run) gets in
      subst (λ told. Shows told bytes cs) (steps_tell t m bytes) (record { batches = all.batches; answers = all.answers; refusal = all.refusal; finish = all.finish; stopped = all.stopped });
}

pub lawful : (t : Terms) (f : Feed) → opened t ≡ Ok f → Lawful t f
lawful t f h = subst (Lawful t) (sym (opened_is t f h)) (opening_lawful t)

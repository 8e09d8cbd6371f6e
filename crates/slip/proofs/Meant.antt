-- What a slip says, by its lists.
use Rattle.std.proofs.Common.{◌≡◌, ℕ, cond, ◌||◌, eqb, List, [], Some, None, Ok, Err, Option, refl, ap, ◌∙◌}
use Rattle.little.specs.Maybe.{and_then}
use Rattle.message.specs.declared.headers.Facts.{Facts}
use Rattle.message.specs.Items.{rows_in, nodes_in, buffers_in, counts_in}
use Rattle.message.specs.Listed.{listed}
use Rattle.message.specs.Messages.{Columns, facts_of, rows_of, list_of, nodes_of, buffers_of, counts_of}
use Rattle.slip.specs.Slips.{told, Lists, columns_of, message_of, slip_lists, slip_meaning}
use Rattle.slip.specs.Chosen.{chosen_lists}
use Rattle.slip.proofs.Chosen.{rows_chosen, list_chosen}

read_lists : (bs : List ℕ) (o : Option Lists) → o ≡ slip_lists bs → and_then o (λ l. Some (message_of bs l)) ≡ slip_meaning bs
unfolding slip_meaning
read_lists bs o e = ap (λ p. and_then p (λ l. Some (message_of bs l))) e

pub facts_refused : (bs : List ℕ) → None ≡ slip_lists bs → Err (record {}) ≡ facts_of (slip_meaning bs)
facts_refused bs e = ap facts_of (read_lists bs None e)

pub facts_meant : (bs : List ℕ) (l : Lists) (facts : Facts) → Ok facts ≡ facts_of (Some (message_of bs l)) → Some l ≡ slip_lists bs → Ok facts ≡ facts_of (slip_meaning bs)
facts_meant bs l facts f e = f ∙ ap facts_of (read_lists bs (Some l) e)

no_rows : rows_in [] ≡ []
unfolding listed
no_rows = refl

no_nodes : nodes_in [] ≡ []
unfolding listed
no_nodes = refl

no_buffers : buffers_in [] ≡ []
unfolding listed
no_buffers = refl

no_counts : counts_in [] ≡ []
unfolding listed
no_counts = refl

-- the lists of a message are those that its header type has
module _ (bs : List ℕ) (l : Lists) (s : Some l ≡ slip_lists bs) (type : ℕ) (e : type ≡ told 1 bs 2) (r : Lists) (p : r ≡ chosen_lists type l) where
  pub rows_meant : rows_in r.rows ≡ rows_of (slip_meaning bs)
  rows_meant = ap (λ m. rows_in m.rows) p ∙ (rw e (rows_chosen bs l no_rows)) ∙ ap rows_of (read_lists bs (Some l) s)

  list_meant : {A : Type 0} (items : List ℕ → List A) (list : Columns → List A) (part : List ℕ) → items [] ≡ [] → items part ≡ list (columns_of bs l) → items (cond (eqb type 2 || eqb type 3) part []) ≡ list_of list (slip_meaning bs)
  list_meant items list part z h =
      (rw e (list_chosen bs l items list part z h)) ∙ ap (list_of list) (read_lists bs (Some l) s)

  pub nodes_meant : nodes_in r.nodes ≡ nodes_of (slip_meaning bs)
  nodes_meant = ap (λ m. nodes_in m.nodes) p ∙ list_meant nodes_in (λ c. c.nodes) l.nodes no_nodes refl

  pub buffers_meant : buffers_in r.buffers ≡ buffers_of (slip_meaning bs)
  buffers_meant = ap (λ m. buffers_in m.buffers) p ∙ list_meant buffers_in (λ c. c.buffers) l.buffers no_buffers refl

  pub counts_meant : counts_in r.counts ≡ counts_of (slip_meaning bs)
  counts_meant = ap (λ m. counts_in m.counts) p ∙ list_meant counts_in (λ c. c.counts) l.counts no_counts refl

-- what is no slip has no lists
module _ (bs : List ℕ) (s : None ≡ slip_lists bs) where
  pub rows_none : rows_in [] ≡ rows_of (slip_meaning bs)
  rows_none = no_rows ∙ ap rows_of (read_lists bs None s)

  pub nodes_none : nodes_in [] ≡ nodes_of (slip_meaning bs)
  nodes_none = no_nodes ∙ ap nodes_of (read_lists bs None s)

  pub buffers_none : buffers_in [] ≡ buffers_of (slip_meaning bs)
  buffers_none = no_buffers ∙ ap buffers_of (read_lists bs None s)

  pub counts_none : counts_in [] ≡ counts_of (slip_meaning bs)
  counts_none = no_counts ∙ ap counts_of (read_lists bs None s)

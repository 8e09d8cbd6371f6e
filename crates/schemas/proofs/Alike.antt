-- Columns that are shown and columns that are not take alike.
use Rattle.std.proofs.Common.{◌≡◌, ℕ, zero, suc, ◌+◌, Bool, true, false, cond, eqb, leb, List, [], ◌∷◌, length, get_or, drop, ℤ, pos, negsuc, Some, None, Option, sym, refl, ap, ◌∙◌, subst}
use Rattle.std.proofs.lemmas.List.{drop-drop}
use Rattle.std.specs.Option.{option_map}
use Rattle.little.specs.Maybe.{and_then}
use Rattle.little.proofs.Maybe.{mapped_is, then_is}
use Rattle.message.specs.declared.items.Buffer.{Buffer}
use Rattle.message.specs.declared.items.Node.{Node}
use Rattle.schemas.specs.declared.kinds.Kind.{Kind}
use Rattle.schemas.specs.declared.kinds.Kind.TheVariants.{Null, Bool as BoolKind, Fixed, Binary, LargeBinary, View, List as ListKind, LargeList, ListView, LargeListView, FixedSizeList, Struct, Dictionary, SparseUnion, DenseUnion}
use Rattle.schemas.specs.Schemas.{Fields, none, field}
use Rattle.schemas.specs.Takings.{Taken, nothing_yet, buffers_of, counts_of, natural, takes_of, kind_of, unless, after}
use Rattle.schemas.specs.Queues.{Queue, pop, pop_node, pop_buffers, pop_count, view_count, decodes, skips, is_view, row_takes, unless_so, fields_take, columns_take, left}

then_same : {A B : Type 0} (o p : Option A) (f g : A → Option B) → o ≡ p → ((x : A) → f x ≡ g x) → and_then o f ≡ and_then p g
then_same o None f g e h = ap (λ u. and_then u f) e
then_same o (Some x) f g e h = ap (λ u. and_then u f) e ∙ h x

abbrev queue : List Node → List Buffer → List ℤ → Queue
queue a b c = record { nodes = a; buffers = b; counts = c }

-- taking from one list does not touch another: nodes and buffers, taken in either order
module _ (q : Queue) where
  abbrev both : Option (List Node) → Option (List Buffer) → Option Queue
  both None b = None
  both (Some a) None = None
  both (Some a) (Some b) = Some (queue a b (drop 1 q.counts))

  no_buffers : (ns : Option (List Node)) → None ≡ both ns None
  no_buffers None = refl
  no_buffers (Some a) = refl

  some_buffers : (ns : Option (List Node)) (b : List Buffer) → option_map (λ a. queue a b (drop 1 q.counts)) ns ≡ both ns (Some b)
  some_buffers None b = refl
  some_buffers (Some a) b = refl

  buffers_first : (bs : Option (List Buffer)) → and_then (option_map (λ b. queue q.nodes b (drop 1 q.counts)) bs) pop_node ≡ both (pop 1 q.nodes) bs
  buffers_first None = no_buffers (pop 1 q.nodes)
  buffers_first (Some b) = some_buffers (pop 1 q.nodes) b

  no_node : (c : Option ℕ) (bs : ℕ → Option (List Buffer)) → None ≡ and_then c (λ n. both None (bs n))
  no_node None bs = refl
  no_node (Some n) bs = refl

  with_node : (a : List Node) (bs : Option (List Buffer)) → option_map (λ b. queue a b (drop 1 q.counts)) bs ≡ both (Some a) bs
  with_node a None = refl
  with_node a (Some b) = refl

  node_first_lem : (ns : Option (List Node)) → and_then (option_map (λ a. queue a q.buffers q.counts) ns) (λ n. and_then (view_count n.counts) (λ c. pop_buffers (c + 2) (pop_count n))) ≡ and_then (view_count q.counts) (λ c. both ns (pop (c + 2) q.buffers))
  node_first_lem None = no_node (view_count q.counts) (λ c. pop (c + 2) q.buffers)
  node_first_lem (Some a) = then_same (view_count q.counts) (view_count q.counts) _ _ refl (λ c. with_node a (pop (c + 2) q.buffers))

row_order : (version : ℤ) (view : Bool) (kind : Kind) (q : Queue) → decodes version view kind q ≡ skips version view kind q
row_order version true kind q =
    then_same (view_count q.counts) (view_count q.counts) _ _ refl (λ c. buffers_first q (pop (c + 2) q.buffers)) ∙ sym (node_first_lem q (pop 1 q.nodes))
row_order version false kind q = refl

row_alike : (version : ℤ) (a b : Bool) (o : Option Kind) (q : Queue) → row_takes version a o q ≡ row_takes version b o q
row_alike version a b None q = refl
row_alike version true true (Some kind) q = refl
row_alike version true false (Some kind) q = row_order version (is_view kind) kind q
row_alike version false true (Some kind) q = sym (row_order version (is_view kind) kind q)
row_alike version false false (Some kind) q = refl

unless_alike : (b : Bool) (f g : Queue → Option Queue) (q : Queue) → ((p : Queue) → f p ≡ g p) → unless_so b f q ≡ unless_so b g q
unless_alike true f g q h = refl
unless_alike false f g q h = h q

pub fields_alike : (version : ℤ) (a b : Bool) (fs : Fields) (q : Queue) → fields_take version a fs q ≡ fields_take version b fs q
fields_alike version a b none q = refl
fields_alike version a b (field r kids next) q =
    then_same _ _ _ _ (row_alike version a b (kind_of r) q) (λ own.
    then_same _ _ _ _ (unless_alike (eqb r.kind 13) _ _ own (fields_alike version a b kids)) (fields_alike version a b next))

columns_alike : (version : ℤ) (shown others : ℕ → Bool) (k : ℕ) (fs : Fields) (q : Queue) → columns_take version shown k fs q ≡ columns_take version others k fs q
columns_alike version shown others k none q = refl
columns_alike version shown others k (field r kids next) q = then_same _ _ _ _ (fields_alike version (shown k) (others k) (field r kids none) q) (columns_alike version shown others (k + 1) next)

pub skips_take_alike : (version : ℤ) (shown others : ℕ → Bool) (fs : Fields) (q : Queue) → columns_take version shown 0 fs q ≡ columns_take version others 0 fs q
skips_take_alike version shown others fs q = columns_alike version shown others 0 fs q

-- by place
pop_is : {A : Type 0} (n : ℕ) (xs ys : List A) → pop n xs ≡ Some ys → ys ≡ drop n xs
pop_is n xs ys e = by (leb n (length xs)) e where
  by : (b : Bool) → elim b [ true ↦ Some (drop n xs) | false ↦ None ] ≡ Some ys → ys ≡ drop n xs
  by true e = cc
  by false e = cc

node_is : (q p : Queue) → pop_node q ≡ Some p → p ≡ record { nodes = drop 1 q.nodes; buffers = q.buffers; counts = q.counts }
node_is q p e = let m = mapped_is _ (pop 1 q.nodes) p e in m.2 ∙ ap (λ ns. record { nodes = ns; buffers = q.buffers; counts = q.counts }) (pop_is 1 q.nodes m.0 m.1)

buffers_is : (n : ℕ) (q p : Queue) → pop_buffers n q ≡ Some p → p ≡ record { nodes = q.nodes; buffers = drop n q.buffers; counts = q.counts }
buffers_is n q p e = let m = mapped_is _ (pop n q.buffers) p e in m.2 ∙ ap (λ bs. record { nodes = q.nodes; buffers = bs; counts = q.counts }) (pop_is n q.buffers m.0 m.1)

-- a count that is there, by its place
count_is : (cs : List ℤ) (k c : ℕ) → view_count (drop k cs) ≡ Some c → natural (get_or cs k (pos 0)) ≡ c
count_is [] zero c e = cc
count_is [] (suc k) c e = cc
count_is (pos n ∷ cs) zero c e = cc
count_is (negsuc n ∷ cs) zero c e = cc
count_is (x ∷ cs) (suc k) c e = count_is cs k c e

-- only a view's buffers hang on a count
needs : (kind : Kind) (version : ℤ) (c : ℕ) → (buffers_of version c kind ≡ cond (is_view kind) (c + 2) (buffers_of version 0 kind)) × (counts_of kind ≡ cond (is_view kind) 1 0)
needs Null version c = (refl, refl)
needs BoolKind version c = (refl, refl)
needs Fixed version c = (refl, refl)
needs Binary version c = (refl, refl)
needs LargeBinary version c = (refl, refl)
needs View version c = (refl, refl)
needs ListKind version c = (refl, refl)
needs LargeList version c = (refl, refl)
needs ListView version c = (refl, refl)
needs LargeListView version c = (refl, refl)
needs FixedSizeList version c = (refl, refl)
needs Struct version c = (refl, refl)
needs Dictionary version c = (refl, refl)
needs SparseUnion version c = (refl, refl)
needs DenseUnion version c = (refl, refl)

plain : (kind : Kind) (version : ℤ) (c : ℕ) → is_view kind ≡ false → (buffers_of version c kind ≡ buffers_of version 0 kind) × (counts_of kind ≡ 0)
plain kind version c e =
    let n = needs kind version c in
    (n.0 ∙ ap (λ b. cond b (c + 2) (buffers_of version 0 kind)) e, n.1 ∙ ap (λ b. cond b 1 0) e)

view : (kind : Kind) (version : ℤ) (c : ℕ) → is_view kind ≡ true → (buffers_of version c kind ≡ c + 2) × (counts_of kind ≡ 1)
view kind version c e =
    let n = needs kind version c in
    (n.0 ∙ ap (λ b. cond b (c + 2) (buffers_of version 0 kind)) e, n.1 ∙ ap (λ b. cond b 1 0) e)

module _ (version : ℤ) (Q : Queue) where
  abbrev count_of : Taken → ℕ
  count_of t = natural (get_or Q.counts t.counts (pos 0))

  -- what is left, by three numbers
  left_by : (t : Taken) (m : ℕ) (n : ℕ) → queue (drop 1 (drop t.nodes Q.nodes)) (drop m (drop t.buffers Q.buffers)) (drop n (drop t.counts Q.counts)) ≡ left Q (record { nodes = t.nodes + 1; buffers = t.buffers + m; counts = t.counts + n })
  left_by t m n =
      ap (λ a. queue a (drop m (drop t.buffers Q.buffers)) (drop n (drop t.counts Q.counts))) (drop-drop 1 t.nodes Q.nodes)
      ∙ ap (λ b. queue (drop (t.nodes + 1) Q.nodes) b (drop n (drop t.counts Q.counts))) (drop-drop m t.buffers Q.buffers)
      ∙ ap (λ c. queue (drop (t.nodes + 1) Q.nodes) (drop (t.buffers + m) Q.buffers) c) (drop-drop n t.counts Q.counts)

  skip_place : (kind : Kind) (w : Bool) (t : Taken) (q' : Queue) → is_view kind ≡ w → skips version w kind (left Q t) ≡ Some q' → q' ≡ left Q (takes_of version Q.counts (Some kind) t)
  skip_place kind false t q' is e =
      let n = then_is (pop_node (left Q t)) _ q' e in
      let p = plain kind version (count_of t) is in
      buffers_is (buffers_of version 0 kind) n.0 q' n.2
      ∙ ap (λ x. queue x.nodes (drop (buffers_of version 0 kind) x.buffers) x.counts) (node_is (left Q t) n.0 n.1)
      ∙ left_by t (buffers_of version 0 kind) 0
      ∙ ap (λ m. left Q (record { nodes = t.nodes + 1; buffers = t.buffers + m; counts = t.counts + 0 })) (sym p.0)
      ∙ ap (λ m. left Q (record { nodes = t.nodes + 1; buffers = t.buffers + buffers_of version (count_of t) kind; counts = t.counts + m })) (sym p.1)
  skip_place kind true t q' is e =
      let n = then_is (pop_node (left Q t)) _ q' e in
      let n-is = node_is (left Q t) n.0 n.1 in
      let c = then_is (view_count n.0.counts) _ q' n.2 in
      let c-is : count_of t ≡ c.0 = count_is Q.counts t.counts c.0 (ap (λ x. view_count x.counts) (sym n-is) ∙ c.1) in
      let p = view kind version (count_of t) is in
      buffers_is (c.0 + 2) (pop_count n.0) q' c.2
      ∙ ap (λ x. queue x.nodes (drop (c.0 + 2) x.buffers) (drop 1 x.counts)) n-is
      ∙ left_by t (c.0 + 2) 1
      ∙ ap (λ m. left Q (record { nodes = t.nodes + 1; buffers = t.buffers + m; counts = t.counts + 1 })) (sym (p.0 ∙ ap (λ j. j + 2) c-is))
      ∙ ap (λ m. left Q (record { nodes = t.nodes + 1; buffers = t.buffers + buffers_of version (count_of t) kind; counts = t.counts + m })) (sym p.1)

  row_place : (a : Bool) (o : Option Kind) (t : Taken) (q' : Queue) → row_takes version a o (left Q t) ≡ Some q' → q' ≡ left Q (takes_of version Q.counts o t)
  row_place a None t q' e = cc
  row_place a (Some kind) t q' e = skip_place kind (is_view kind) t q' refl (row_alike version false a (Some kind) (left Q t) ∙ e)

  unless_place : (b : Bool) (f : Queue → Option Queue) (g : Taken → Taken) (t : Taken) (q' : Queue) → ((p : Queue) → f (left Q t) ≡ Some p → p ≡ left Q (g t)) → unless_so b f (left Q t) ≡ Some q' → q' ≡ left Q (unless b g t)
  unless_place true f g t q' h e = cc
  unless_place false f g t q' h e = h q' e

  fields_place : (a : Bool) (fs : Fields) (t : Taken) (q' : Queue) → fields_take version a fs (left Q t) ≡ Some q' → q' ≡ left Q (after version Q.counts fs t)
  fields_place a none t q' e = cc
  fields_place a (field r kids next) t q' e =
      let own = then_is (row_takes version a (kind_of r) (left Q t)) _ q' e in
      let t₁ = takes_of version Q.counts (kind_of r) t in
      let own_is = row_place a (kind_of r) t own.0 own.1 in
      let more = subst (λ x. and_then (unless_so (eqb r.kind 13) (fields_take version a kids) x) (fields_take version a next) ≡ Some q') own_is own.2 in
      let inner = then_is (unless_so (eqb r.kind 13) (fields_take version a kids) (left Q t₁)) _ q' more in
      let t₂ = unless (eqb r.kind 13) (after version Q.counts kids) t₁ in
      let inner-is = unless_place (eqb r.kind 13) (fields_take version a kids) (after version Q.counts kids) t₁ inner.0 (λ p d. fields_place a kids t₁ p d) inner.1 in
      fields_place a next t₂ q' (subst (λ x. fields_take version a next x ≡ Some q') inner-is inner.2)

  columns_place : (shown : ℕ → Bool) (k : ℕ) (fs : Fields) (t : Taken) (q' : Queue) → columns_take version shown k fs (left Q t) ≡ Some q' → q' ≡ left Q (after version Q.counts fs t)
  columns_place shown k none t q' e = cc
  columns_place shown k (field r kids next) t q' e =
      let one = then_is (fields_take version (shown k) (field r kids none) (left Q t)) _ q' e in
      let one-is = fields_place (shown k) (field r kids none) t one.0 one.1 in
      columns_place shown (k + 1) next _ q' (subst (λ x. columns_take version shown (k + 1) next x ≡ Some q') one-is one.2)

pub takes_by_place : (version : ℤ) (shown : ℕ → Bool) (fs : Fields) (q q' : Queue) → columns_take version shown 0 fs q ≡ Some q' → q' ≡ left q (after version q.counts fs nothing_yet)
takes_by_place version shown fs q q' e = columns_place version q shown 0 fs nothing_yet q' e

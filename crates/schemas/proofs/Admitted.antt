-- The test for schemas finds exactly them.
use Rattle.std.proofs.Common.{◌≡◌, ℕ, ◌+◌, max, true, ◌&&◌, eqb, leb, List, [], ◌∷◌, ◌++◌, length, Some, None, Option, sym, refl, ap, ◌∙◌, append-nil, arith}
use Rattle.std.proofs.lemmas.List.{take_all}
use Rattle.std.proofs.lemmas.Bool.{and_parts, leb-true, le-leb}
use Rattle.message.specs.declared.rows.Row.{Row}
use Rattle.types.specs.Choices.{beside}
use Rattle.schemas.specs.declared.kinds.Kind.{Kind}
use Rattle.schemas.specs.declared.kinds.Kind.TheVariants.{Null, Bool as BoolKind, Fixed, Binary, LargeBinary, View, List as ListKind, LargeList, ListView, LargeListView, FixedSizeList, Struct, Dictionary, SparseUnion, DenseUnion}
use Rattle.schemas.specs.Kinds.{kinds}
use Rattle.schemas.specs.Schemas.{Fields, none, field, size, count, depth, tags, values, ended, listing, apart, children_fit, parameter_fits, kind_fits, row_fits, sound, parse, admitted, admits, Schema}
use Rattle.schemas.proofs.Parsed.{closed, parse_reads, parse_listing, length_listing}

-- ends change nothing that a row is asked for
count_closed : (k : ℕ) (fs : Fields) → count (closed k fs) ≡ count fs
count_closed k none = refl
count_closed k (field r kids next) = ap (λ n. 1 + n) (count_closed (k + 1 + size kids) next)

tags_closed : (k : ℕ) (fs : Fields) → tags (closed k fs) ≡ tags fs
tags_closed k none = refl
tags_closed k (field r kids next) = ap (λ l. r.tag ∷ l) (tags_closed (k + 1 + size kids) next)

values_closed : (k : ℕ) (fs : Fields) → values (closed k fs) ≡ values fs
values_closed k none = refl
values_closed k (field r kids next) = refl

depth_closed : (k : ℕ) (fs : Fields) → depth (closed k fs) ≡ depth fs
depth_closed k none = refl
depth_closed k (field r kids next) = ap (λ n. max (1 + n) (depth (closed (k + 1 + size kids) next))) (depth_closed (k + 1) kids) ∙ ap (max (1 + depth kids)) (depth_closed (k + 1 + size kids) next)

union_closed : (k : ℕ) (fs : Fields) → leb (count (closed k fs)) 127 && apart (tags (closed k fs)) ≡ (leb (count fs) 127 && apart (tags fs))
union_closed k fs = ap (λ n. leb n 127 && apart (tags (closed k fs))) (count_closed k fs) ∙ ap (λ l. leb (count fs) 127 && apart l) (tags_closed k fs)

children_closed : (kind : Kind) (k : ℕ) (fs : Fields) → children_fit kind (closed k fs) ≡ children_fit kind fs
children_closed Null k fs = ap (λ n. eqb n 0) (count_closed k fs)
children_closed BoolKind k fs = ap (λ n. eqb n 0) (count_closed k fs)
children_closed Fixed k fs = ap (λ n. eqb n 0) (count_closed k fs)
children_closed Binary k fs = ap (λ n. eqb n 0) (count_closed k fs)
children_closed LargeBinary k fs = ap (λ n. eqb n 0) (count_closed k fs)
children_closed View k fs = ap (λ n. eqb n 0) (count_closed k fs)
children_closed ListKind k fs = ap (λ n. eqb n 1) (count_closed k fs)
children_closed LargeList k fs = ap (λ n. eqb n 1) (count_closed k fs)
children_closed ListView k fs = ap (λ n. eqb n 1) (count_closed k fs)
children_closed LargeListView k fs = ap (λ n. eqb n 1) (count_closed k fs)
children_closed FixedSizeList k fs = ap (λ n. eqb n 1) (count_closed k fs)
children_closed Struct k fs = refl
children_closed Dictionary k fs = ap (λ n. eqb n 1 && values (closed k fs)) (count_closed k fs) ∙ ap (λ b. eqb (count fs) 1 && b) (values_closed k fs)
children_closed SparseUnion k fs = union_closed k fs
children_closed DenseUnion k fs = union_closed k fs

kind_closed : (o : Option Kind) (r : Row) (n k : ℕ) (kids : Fields) → kind_fits o (ended r n) (closed k kids) ≡ kind_fits o r kids
kind_closed None r n k kids = refl
kind_closed (Some kind) r n k kids = ap (λ b. parameter_fits kind r.parameter && b) (children_closed kind k kids)

sound_closed : (k : ℕ) (fs : Fields) → sound (closed k fs) ≡ sound fs
sound_closed k none = refl
sound_closed k (field r kids next) =
    let e = k + 1 + size kids in
    let own : row_fits (ended r e) (closed (k + 1) kids) ≡ row_fits r kids = ap (λ b. leb r.flag 1 && b) (kind_closed (beside kinds r.kind) r e (k + 1) kids) in
    ap (λ b. b && (sound (closed (k + 1) kids) && sound (closed e next))) own
    ∙ ap (λ b. row_fits r kids && (b && sound (closed e next))) (sound_closed (k + 1) kids)
    ∙ ap (λ b. row_fits r kids && (sound kids && b)) (sound_closed e next)

-- what the test finds is a schema
found : (rows : List Row) (o : Option Fields) → parse (length rows) 0 (length rows) rows ≡ o → admitted rows o ≡ true → Schema rows
found rows None p e = cc
found rows (Some fs) p e =
    let reads = parse_reads (length rows) 0 (length rows) rows fs p in
    let long : size fs ≡ length rows = omega (arith, reads.long) in
    let a = and_parts (sound fs) (leb (depth fs) 16 && leb (length rows) 256) e in
    let b = and_parts (leb (depth fs) 16) (leb (length rows) 256) a.1 in
    record {
      fields = fs;
      listed = sym (take_all (size fs) rows (omega (arith, long))) ∙ reads.same;
      fit = a.0;
      deep = leb-true (depth fs) 16 b.0;
      few = leb-true (length rows) 256 b.1;
    }

-- and every schema is found
finds : (rows : List Row) → Schema rows → admits rows ≡ true
unfolding admits
finds rows s =
    let fs = s.fields in
    let long : length rows ≡ size fs = ap length s.listed ∙ length_listing 0 fs in
    let zero_is : 0 + size fs ≡ size fs = omega arith in
    let all : parse (length rows) 0 (length rows) rows ≡ Some (closed 0 fs) =
    ap (λ n. parse n 0 n rows) long
    ∙ ap (parse (size fs) 0 (size fs)) (s.listed ∙ sym (append-nil (listing 0 fs)))
    ∙ ap (λ n. parse (size fs) 0 n (listing 0 fs ++ [])) (sym zero_is)
    ∙ parse_listing fs (size fs) 0 [] (omega arith) in
    let fit : sound (closed 0 fs) ≡ true = sound_closed 0 fs ∙ s.fit in
    let deep : leb (depth (closed 0 fs)) 16 ≡ true = ap (λ n. leb n 16) (depth_closed 0 fs) ∙ le-leb (depth fs) 16 s.deep in
    let few = le-leb (length rows) 256 s.few in
    ap (admitted rows) all
    ∙ ap (λ b. b && (leb (depth (closed 0 fs)) 16 && leb (length rows) 256)) fit
    ∙ ap (λ b. b && leb (length rows) 256) deep
    ∙ few

pub admits_schemas : (rows : List Row) → (admits rows ≡ true → Schema rows) × (Schema rows → admits rows ≡ true)
unfolding admits
admits_schemas rows = (λ e. found rows (parse (length rows) 0 (length rows) rows) refl e, finds rows)

-- The laws of programs with types for what has none.
use Rattle.std.specs.Prelude.{◌≡◌, refl, ℕ, zero, suc, ◌+◌, ◌*◌, ◌≤◌, nat_lt, Bool, true, false, if◌then◌else◌, List, [], ◌∷◌, length, map, Option, Some}
use Rattle.std.specs.List.{All, AllByRecursion}
use Rattle.std.proofs.Common.{◌∙◌, ap, ap₂, sym, subst, arith}
use Rattle.std.proofs.lemmas.List.{length-map}
use Rattle.std.proofs.lemmas.List.Elements.{All-head, All-tail}
use Rattle.da_values.specs.declared.token.Token.{Token}
use Rattle.da_values.specs.Marks.{tok, toks}
use Rattle.da_lex.proofs.TokenCounts.{few_tokens}
use Rattle.da_lang.specs.declared.tree.Tree.{Tree}
use Rattle.da_lang.specs.declared.ty.Ty.{Ty, roll-Ty}
use Rattle.da_lang.specs.declared.ty.Ty.TheFolds.{fold-roll-Ty}
use Rattle.da_lang.specs.declared.ty.Ty.TheOpen as layer
use Rattle.da_lang.specs.declared.ty.Ty.TheVariants as ty
use Rattle.da_lang.specs.Accepted.{IsWritten}
use Rattle.da_lang.specs.Grammar.{Spells}
use Rattle.da_lang.specs.Limits.{most_parts, wide, limit_refusals}
use Rattle.da_lang.specs.NameRules.{name_refusals}
use Rattle.da_lang.specs.Resolution.{resolved}
use Rattle.da_lang.specs.Typing.{type_breaks}
use Rattle.da_lang.specs.Written.{type_width, type_width_step}
use Rattle.da_parse.specs.declared.loose.LooseTree.{LooseTree}
use Rattle.da_parse.specs.Loose.{given_tree, loose_of}
use Rattle.da_parse.specs.Parameters.{SpellsWithinBy}
use Rattle.type_table.specs.Draws.{numbers_from}
use Rattle.type_table.specs.Fits.{Meaning}
use Rattle.type_demands.specs.Demands.{all_met}
use Rattle.type_fitting.specs.Declarable.{IsDeclarable}
use Rattle.added_names.specs.Filled.{filled}
use Rattle.untyped_laws.specs.Laws.{PutResolves, PutNamed, PutLimited}
use Rattle.untyped_laws.specs.Retyped.{put_tree, put_program}
use Rattle.class_demands.specs.Laws.{ProgramsAreDemanded}
use Rattle.class_demands.specs.Prefix.{none_upto, always, demands_upto}
use Rattle.class_demands.specs.Programs.{program_demands}
use Rattle.class_demands.specs.Unknowns.{unknown_in, known_type, put}
use Rattle.da_infer.specs.Fills.{IsLoose, Fills, most_bytes, place_of, open_in, count_in}
use Rattle.da_infer.specs.Laws.{FillsAreWritten, Alike, FillsAgree, types_by, FillsAreDemanded}
use Rattle.da_infer.specs.Unknowns.{AreUnknowns}
use Rattle.da_infer.proofs.FilledLaws.{put_loose, tree_after}
use Rattle.da_infer.proofs.FilledSpelled.{program_grows}
use Rattle.da_infer.proofs.Placed.{are_written}
use Rattle.da_infer.proofs.StayLaws.{Within, written_stay, put_int}
use Rattle.da_infer.proofs.TagNames.{tags_are_names}
use Rattle.da_infer.proofs.TakenTrees.{is_added}

pub each_of : {A : Type 0} (P : A → Type 0) (xs : List A) → All P xs → AllByRecursion P xs
each_of P [] all = tt
each_of P (x ∷ xs) all = (All-head P x xs all, each_of P xs (All-tail P x xs all))

-- ---- names and limits

int_by : (b : Bool) → (if b then ty.Int else ty.Int) ≡ ty.Int
int_by true = refl
int_by false = refl

-- a type that is not too wide becomes `int`
abbrev narrowed : Ty → Ty
narrowed x = if wide (type_width x) then x else ty.Int

int_width : type_width ty.Int ≡ 0
unfolding type_width
int_width = ap type_width (sym ty.rolls-Int) ∙ fold-roll-Ty ℕ type_width_step layer.Int

int_narrow : wide (type_width ty.Int) ≡ false
unfolding most_parts
int_narrow = ap wide int_width

width_by : (b : Bool) (x : Ty) → wide (type_width x) ≡ b → wide (type_width (if b then x else ty.Int)) ≡ b
width_by true x e = e
width_by false x e = int_narrow

narrow_int : (b : Bool) (x : Ty) → b ≡ false → (if b then x else ty.Int) ≡ ty.Int
narrow_int false x e = refl
narrow_int true x e = absurd (cc)

all_narrow : (xs ys : List Ty) → AllByRecursion IsDeclarable xs → AllByRecursion IsDeclarable ys → length xs ≡ length ys → map narrowed xs ≡ map narrowed ys
all_narrow [] [] p q e = refl
all_narrow [] (y ∷ ys) p q e = absurd (omega (arith, e))
all_narrow (x ∷ xs) [] p q e = absurd (omega (arith, e))
all_narrow (x ∷ xs) (y ∷ ys) p q e =
    ap₂ (λ z zs. z ∷ zs) (narrow_int (wide (type_width x)) x p.0.narrow ∙ sym (narrow_int (wide (type_width y)) y q.0.narrow)) (all_narrow xs ys p.1 q.1 (omega (arith, e)))

module _ (named : PutNamed) (limited : PutLimited) (l : LooseTree) (types others : List Ty) (t u : Tree) (a : Fills l types t) (b : Fills l others u) where
  same_narrowed : put_tree narrowed t ≡ put_tree narrowed u
  same_narrowed =
      ap (put_tree narrowed) a.is ∙ tree_after narrowed (int_by (wide (type_width ty.Int))) (open_in l) types
      ∙ ap (filled (put_loose narrowed (int_by (wide (type_width ty.Int))) (open_in l))) (all_narrow types others (each_of IsDeclarable types a.each) (each_of IsDeclarable others b.each) (a.size ∙ sym b.size))
      ∙ sym (tree_after narrowed (int_by (wide (type_width ty.Int))) (open_in l) others) ∙ sym (ap (put_tree narrowed) b.is)

  alike : Alike t u
  alike = record {
    names = sym (named narrowed t) ∙ ap name_refusals same_narrowed ∙ named narrowed u;
    limits = sym (limited narrowed (λ x. width_by (wide (type_width x)) x refl) t) ∙ ap limit_refusals same_narrowed ∙ limited narrowed (λ x. width_by (wide (type_width x)) x refl) u;
  }

pub fills_agree : PutNamed → PutLimited → FillsAgree
fills_agree named limited l loose types others t u a b = alike named limited l types others t u a b

-- ---- what is demanded

put_is : (m : Meaning) (x : Ty) (k : ℕ) → unknown_in x ≡ Some k → put m x ≡ m k
unfolding put
put_is m x k e = ap (known_type m x) e

first_same : {A : Type 0} (x y : A) (xs ys : List A) → x ∷ xs ≡ y ∷ ys → x ≡ y
first_same x y xs ys e = cc

rest_same : {A : Type 0} (x y : A) (xs ys : List A) → x ∷ xs ≡ y ∷ ys → xs ≡ ys
rest_same x y xs ys e = cc

unknowns_put : (m : Meaning) (xs : List Ty) (ks : List ℕ) → map unknown_in xs ≡ map Some ks → map (put m) xs ≡ map m ks
unknowns_put m [] [] e = refl
unknowns_put m [] (k ∷ ks) e = absurd (cc)
unknowns_put m (x ∷ xs) [] e = absurd (cc)
unknowns_put m (x ∷ xs) (k ∷ ks) e =
    ap₂ (λ z zs. z ∷ zs) (put_is m x k (first_same (unknown_in x) (Some k) (map unknown_in xs) (map Some ks) e)) (unknowns_put m xs ks (rest_same (unknown_in x) (Some k) (map unknown_in xs) (map Some ks) e))

-- unknown types become others in the whole program
put_unknowns : (l : LooseTree) → IsLoose l → (unknowns : List Ty) → AreUnknowns (count_in l) unknowns → (m : Meaning) → put_tree (put m) (filled (open_in l) unknowns) ≡ filled (open_in l) (types_by l m)
unfolding loose_of SpellsWithinBy
put_unknowns l is unknowns numbers m =
    let stays : put_tree (put m) l.tree ≡ l.tree = subst (λ (z : LooseTree). put_tree (put m) z.tree ≡ z.tree) (sym is.made) (written_stay m is.tree (toks is.text is.list) is.spelled.1) in
    tree_after (put m) (put_int m) (open_in l) unknowns
    ∙ ap₂ (λ (tree : Tree) (types : List Ty). filled (record { tree = tree; untyped = map place_of l.untyped }) types) stays (unknowns_put m unknowns (numbers_from 0 (count_in l)) numbers)

pub fills_are_demanded : PutResolves → ProgramsAreDemanded → FillsAreDemanded
fills_are_demanded resolves demanded l is unknowns numbers m n =
    ap (λ u. none_upto n (type_breaks (resolved u))) (sym (put_unknowns l is unknowns numbers m))
    ∙ ap (λ p. none_upto n (type_breaks p)) (resolves (put m) (filled (open_in l) unknowns))
    ∙ demanded m (filled (open_in l) unknowns) n

-- ---- which tokens spell it

written_of : (tree : Tree) (text : List ℕ) (list : List Token) → length text ≤ most_bytes → length list ≤ 3 * length text + 2 → SpellsWithinBy true 32 tree (toks text list)
    → (types : List Ty) (t : Tree) → Fills (loose_of tree) types t → IsWritten t
unfolding loose_of SpellsWithinBy Spells most_bytes
written_of tree text list short few spelled types t fills =
    let w = are_written types (each_of IsDeclarable types fills.each) in
    let size = 33 + w.least in
    let small : length text ≤ 1048576 = short in
    let added = is_added Within 33 tree (toks text list) spelled.1 spelled.0 in
    let whole = program_grows Within 33 size (omega arith) (omega arith) tree (map place_of (loose_of tree).untyped) types (toks text list) spelled.1 (tags_are_names (given_tree tree)) added.words (w.have size (omega arith)) in
    subst IsWritten (sym fills.is)
    (record {
      tokens = whole.tokens;
      few = omega (arith, whole.few, few, small, added.few, length-map list (tok text));
      spells = (whole.all spelled.0, (size, whole.spelled));
    })

pub fills_are_written : FillsAreWritten
fills_are_written l is types t fills =
    subst (λ (z : LooseTree). Fills z types t → IsWritten t) (sym is.made) (λ fills. written_of is.tree is.text is.list is.size (few_tokens is.text is.list is.lexed) is.spelled types t fills) fills

-- The yield points in a statement, by its kind.
use Rattle.std.proofs.Common.{◌≡◌, ℕ, ◌+◌, List, [], ◌∷◌, ◌++◌, length, map, Option, Some, None, refl, sym, ap, ◌∙◌, subst, arith, append_assoc, append-nil, length-append}
use Rattle.std.specs.Prelude.{Bool, true, false, flat_map, is_some, slice_get, unwrap_or}
use Rattle.std.proofs.lemmas.Option.{slice_get_within}
use Rattle.da_lang.specs.declared.program.Alt.{Alt}
use Rattle.da_lang.specs.declared.program.Class.{Class}
use Rattle.da_lang.specs.declared.program.Item.{Item}
use Rattle.da_lang.specs.declared.program.ItemKind.{ItemKind}
use Rattle.da_lang.specs.declared.program.ItemKind.TheFolds.{fold-Item, fold-ItemKind, fold-Alt, fold-RBranch, fold_out-Item, fold_out-ItemKind, fold_out-Alt, fold_out-RBranch, map-ItemKind}
use Rattle.da_lang.specs.declared.program.ItemKind.TheOpen as kind
use Rattle.da_lang.specs.declared.program.ItemKind.TheOpen.{ItemKind-F}
use Rattle.da_lang.specs.declared.program.ItemKind.TheViews.{out-Alt, out-Item, out-RBranch}
use Rattle.da_lang.specs.declared.program.RBranch.{RBranch}
use Rattle.da_lang.specs.Shaped.{blocks_in}
use Rattle.da_lang.specs.Turns.{kind_of}
use Rattle.da_machine.specs.declared.code.Code.{Code}
use Rattle.da_machine.specs.Points.{AltPoints, AtAwait, AtLabel, IsNumbered, Point, Points, alt_points_step, branch_points_step, way_of, ways_of, item_points_step, kind_points_step, points_in, points_of}
use Rattle.code_gen.specs.Made.{AreNumbered, Grown, alt_points, block_points, branch_points}
use Rattle.code_gen.proofs.Growing.{grown_on}
use Rattle.code_gen.proofs.Lists.{after_front, in_front}

-- those of a kind, with the blocks in it as they stand
abbrev pub points_in_kind : ItemKind-F ItemKind Alt Item RBranch → Points
points_in_kind (kind.If branches other) = flat_map branch_points branches ++ block_points other
points_in_kind (kind.While e body) = block_points body
points_in_kind (kind.For s e body) = block_points body
points_in_kind (kind.Call args body) = block_points body
points_in_kind (kind.Await alts timeout label) = AtAwait (ways_of alts) (is_some timeout) label ∷ (flat_map alt_points alts ++ block_points (unwrap_or timeout []))
points_in_kind (kind.Label label) = AtLabel label ∷ []
points_in_kind _ = []

abbrev KindPoints : ItemKind → Points
KindPoints = fold-ItemKind Points AltPoints Points Points kind_points_step alt_points_step item_points_step branch_points_step

abbrev AltParts : Alt → AltPoints
AltParts = fold-Alt Points AltPoints Points Points kind_points_step alt_points_step item_points_step branch_points_step

abbrev BranchPoints : RBranch → Points
BranchPoints = fold-RBranch Points AltPoints Points Points kind_points_step alt_points_step item_points_step branch_points_step

abbrev ItemPoints : Item → Points
ItemPoints = fold-Item Points AltPoints Points Points kind_points_step alt_points_step item_points_step branch_points_step

-- one after the other, where each is by another name
by_name : (A : Type 0) (f g : A → Points) → ((x : A) → f x ≡ g x) → (xs : List A) → points_of (map f xs) ≡ flat_map g xs
by_name A f g same [] = refl
by_name A f g same (x ∷ xs) = ap (λ l. l ++ points_of (map f xs)) (same x) ∙ ap (λ l. g x ++ l) (by_name A f g same xs)

item_name : (i : Item) → ItemPoints i ≡ points_in i
unfolding points_in
item_name i = refl

block_name : (items : List Item) → points_of (map ItemPoints items) ≡ block_points items
block_name items = by_name Item ItemPoints points_in item_name items

branch_name : (b : RBranch) → BranchPoints b ≡ branch_points b
branch_name b = fold_out-RBranch Points AltPoints Points Points kind_points_step alt_points_step item_points_step branch_points_step b ∙ block_name (out-RBranch b).body

alt_name : (a : Alt) → AltParts a ≡ record { way = way_of a; inside = points_of (map ItemPoints (out-Alt a).body) }
alt_name a = fold_out-Alt Points AltPoints Points Points kind_points_step alt_points_step item_points_step branch_points_step a

alt_ways : (alts : List Alt) → map (λ (p : AltPoints). p.way) (map AltParts alts) ≡ ways_of alts
alt_ways [] = refl
alt_ways (a ∷ alts) = ap (λ (p : AltPoints). p.way ∷ map (λ (p : AltPoints). p.way) (map AltParts alts)) (alt_name a) ∙ ap (λ l. way_of a ∷ l) (alt_ways alts)

alt_insides : (alts : List Alt) → flat_map (λ (p : AltPoints). p.inside) (map AltParts alts) ≡ flat_map alt_points alts
alt_insides [] = refl
alt_insides (a ∷ alts) =
    ap (λ (p : AltPoints). p.inside ++ flat_map (λ (p : AltPoints). p.inside) (map AltParts alts)) (alt_name a)
    ∙ ap (λ l. l ++ flat_map (λ (p : AltPoints). p.inside) (map AltParts alts)) (block_name (out-Alt a).body)
    ∙ ap (λ l. alt_points a ++ l) (alt_insides alts)

await_parts : (alts : List Alt) (has : Bool) (label : Option ℕ) (last : Points)
    → AtAwait (map (λ (p : AltPoints). p.way) (map AltParts alts)) has label ∷ (flat_map (λ (p : AltPoints). p.inside) (map AltParts alts) ++ last) ≡ AtAwait (ways_of alts) has label ∷ (flat_map alt_points alts ++ last)
await_parts alts has label last =
    ap (λ l. AtAwait l has label ∷ (flat_map (λ (p : AltPoints). p.inside) (map AltParts alts) ++ last)) (alt_ways alts)
    ∙ ap (λ l. AtAwait (ways_of alts) has label ∷ (l ++ last)) (alt_insides alts)

await_layer : (alts : List Alt) (timeout : Option (List Item)) (label : Option ℕ)
    → kind_points_step (map-ItemKind ItemKind Alt Item RBranch Points AltPoints Points Points KindPoints AltParts ItemPoints BranchPoints (kind.Await alts timeout label)) ≡ points_in_kind (kind.Await alts timeout label)
await_layer alts None label = await_parts alts false label []
await_layer alts (Some body) label =
    await_parts alts true label (points_of (map ItemPoints body)) ∙ ap (λ l. AtAwait (ways_of alts) true label ∷ (flat_map alt_points alts ++ l)) (block_name body)

-- the points in the blocks of an `await`, by its alternatives and its last block
blocks_points : (alts : List Alt) (more : List (List Item)) → flat_map block_points (map (λ a. (out-Alt a).body) alts ++ more) ≡ flat_map alt_points alts ++ flat_map block_points more
blocks_points [] more = refl
blocks_points (a ∷ alts) more = ap (λ l. alt_points a ++ l) (blocks_points alts more) ∙ sym (append_assoc (alt_points a) (flat_map alt_points alts) (flat_map block_points more))

pub await_points : (alts : List Alt) (timeout : Option (List Item)) (label : Option ℕ) → flat_map block_points (blocks_in (kind.Await alts timeout label)) ≡ flat_map alt_points alts ++ block_points (unwrap_or timeout [])
await_points alts None label = blocks_points alts []
await_points alts (Some body) label = blocks_points alts (body ∷ []) ∙ ap (λ l. flat_map alt_points alts ++ l) (append-nil (block_points body))

layer : (k : ItemKind-F ItemKind Alt Item RBranch) → kind_points_step (map-ItemKind ItemKind Alt Item RBranch Points AltPoints Points Points KindPoints AltParts ItemPoints BranchPoints k) ≡ points_in_kind k
layer (kind.Assign s e) = refl
layer (kind.Add s e) = refl
layer (kind.Del s e) = refl
layer (kind.Send m e) = refl
layer (kind.Output e) = refl
layer (kind.If branches other) = ap (λ l. l ++ points_of (map ItemPoints other)) (by_name RBranch BranchPoints branch_points branch_name branches) ∙ ap (λ l. flat_map branch_points branches ++ l) (block_name other)
layer (kind.While e body) = block_name body
layer (kind.For s e body) = block_name body
layer (kind.Call args body) = block_name body
layer (kind.Await alts timeout label) = await_layer alts timeout label
layer (kind.Label label) = refl
layer kind.Pass = refl

pub points_at : (i : Item) → points_in i ≡ points_in_kind (kind_of i)
points_at i =
    sym (item_name i)
    ∙ fold_out-Item Points AltPoints Points Points kind_points_step alt_points_step item_points_step branch_points_step i
    ∙ fold_out-ItemKind Points AltPoints Points Points kind_points_step alt_points_step item_points_step branch_points_step (out-Item i).kind
    ∙ layer (kind_of i)

-- the first of numbered points, and those after them
pub front_numbers : (class : Class) (from : ℕ) (ps qs : Points) → AreNumbered class from (ps ++ qs) → AreNumbered class from ps
front_numbers class from ps qs all = record { few = all.few; each = λ n point there. all.each n point (in_front ps qs n (slice_get_within ps n point there) ∙ there) }

pub rest_numbers : (class : Class) (from : ℕ) (ps qs : Points) → AreNumbered class from (ps ++ qs) → AreNumbered class (from + length ps) qs
rest_numbers class from ps qs all = record { few = all.few; each = λ n point there. later n point there }
  where
    later : (n : ℕ) (point : Point) → slice_get qs n ≡ Some point → IsNumbered class (from + length ps + n) point
    later n point there =
        let place : from + (length ps + n) ≡ from + length ps + n = omega arith in
        subst (λ m. IsNumbered class m point) place (all.each (length ps + n) point (after_front ps qs n ∙ there))

pub after_numbers : (class : Class) (a b : Code) (ps qs : Points) → Grown a b (length ps) → AreNumbered class (length a.yields) (ps ++ qs) → AreNumbered class (length b.yields) qs
after_numbers class a b ps qs grown all = subst (λ m. AreNumbered class m qs) (sym grown.count) (rest_numbers class (length a.yields) ps qs all)

pub same_numbers : (class : Class) (a b : Code) (ps : Points) → Grown a b 0 → AreNumbered class (length a.yields) ps → AreNumbered class (length b.yields) ps
same_numbers class a b ps grown all = let e : length a.yields ≡ length b.yields = omega (arith, grown.count) in subst (λ m. AreNumbered class m ps) e all

pub grown_both : (a b c : Code) (ps qs : Points) → Grown a b (length ps) → Grown b c (length qs) → Grown a c (length (ps ++ qs))
grown_both a b c ps qs first second = subst (Grown a c) (sym (length-append ps qs)) (grown_on a b c (length ps) (length qs) first second)

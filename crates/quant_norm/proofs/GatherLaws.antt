-- The live patterns of nodes, as sets: those of nodes that are added come to those that are there.
use Rattle.std.specs.Prelude.{◌≡◌, ℕ, zero, suc, Bool, true, false, cond, List, [], ◌∷◌, ◌++◌, map, position, slice_get, get_or, Option, Some, None, refl}
use Rattle.std.specs.List.{filter}
use Rattle.std.proofs.Common.{ap, sym, subst, ◌∙◌, inl, inr, append_assoc, append-nil}
use Rattle.std.proofs.lemmas.Grind.{flat_map-append}
use Rattle.std.proofs.lemmas.List.{map-append}
use Rattle.std.proofs.lemmas.List.Elements.{filter-append}
use Rattle.std.proofs.lemmas.List.Quantifiers.{position-Some}
use Rattle.std.proofs.lemmas.Option.{slice_get-get_or}
use Rattle.da_values.specs.Sets.{Has, IsAlike}
use Rattle.da_values.proofs.Members.{Has-append_left, Has-append_right, of_append, Has-filter, of_filter, Has-map, of_map, Has-flat_map, IsAlike-refl, IsAlike-sym, IsAlike-trans}
use Rattle.da_lang.specs.declared.query.LivePattern.{LivePattern}
use Rattle.da_lang.specs.declared.query.Node.{Node}
use Rattle.da_lang.specs.declared.query.Node.TheVariants as node
use Rattle.da_lang.specs.declared.query.RGen.{RGen}
use Rattle.da_lang.specs.Live.{is_history, live_gen}
use Rattle.query_plan.specs.PlanLive.{gen_of, node_gens, history_lives}
use Rattle.query_plan.specs.Plans.{placed, added}
use Rattle.query_plan.specs.Spelled.{same_node}
use Rattle.query_plan.proofs.SpelledLaws.{one_from_test}

-- Lists with the same members.

pub alike_as : {A : Type 0} (xs ys : List A) → xs ≡ ys → IsAlike xs ys
alike_as xs ys e = subst (IsAlike xs) e (IsAlike-refl xs)

alike_into : {A : Type 0} (a b c e : List A) → IsAlike a b → IsAlike c e → (x : A) → Has (a ++ c) x → Has (b ++ e) x
alike_into a b c e one two x h = elim (of_append a c x h) [
  | inl first ↦ Has-append_left b e x ((one x).0 first)
  | inr second ↦ Has-append_right b e x ((two x).0 second)
]

pub alike_both : {A : Type 0} (a b c e : List A) → IsAlike a b → IsAlike c e → IsAlike (a ++ c) (b ++ e)
alike_both a b c e one two x = (alike_into a b c e one two x, alike_into b a e c (IsAlike-sym a b one) (IsAlike-sym c e two) x)

swapped : {A : Type 0} (a b : List A) (x : A) → Has (a ++ b) x → Has (b ++ a) x
swapped a b x h = elim (of_append a b x h) [
  | inl first ↦ Has-append_right b a x first
  | inr second ↦ Has-append_left b a x second
]

pub alike_swapped : {A : Type 0} (a b : List A) → IsAlike (a ++ b) (b ++ a)
alike_swapped a b x = (swapped a b x, swapped b a x)

-- what is in the one list adds nothing to it
alike_within : {A : Type 0} (xs ys : List A) → ((x : A) → Has ys x → Has xs x) → IsAlike xs (xs ++ ys)
alike_within xs ys within x = (
  Has-append_left xs ys x,
  λ h. elim (of_append xs ys x h) [ inl first ↦ first | inr second ↦ within x second ],
)

-- The live patterns of generators.

pub lives-append : (a b : List RGen) → history_lives (a ++ b) ≡ history_lives a ++ history_lives b
lives-append a b = ap (map live_gen) (filter-append (λ g. is_history g.source) a b) ∙ map-append live_gen (filter (λ g. is_history g.source) a) (filter (λ g. is_history g.source) b)

-- the live pattern of a generator among others is one of theirs
has_live : (gens : List RGen) (g : RGen) (x : LivePattern) → Has gens g → is_history g.source ≡ true → x ≡ live_gen g → Has (history_lives gens) x
has_live gens g x h over e = subst (Has (history_lives gens)) (sym e) (Has-map live_gen (filter (λ z. is_history z.source) gens) g (Has-filter (λ z. is_history z.source) gens g h over))

of_lives : (gens : List RGen) (x : LivePattern) → Has (history_lives gens) x → (g : RGen) × Has gens g × (is_history g.source ≡ true) × (x ≡ live_gen g)
of_lives gens x h =
    let (g, kept, e) = of_map live_gen (filter (λ z. is_history z.source) gens) x h in
    let (among, over) = of_filter (λ (z : RGen). is_history z.source) gens g kept in
    (g, among, over, e)

-- of one generator
one_as : (g h : RGen) (b : Bool) → is_history g.source ≡ b → is_history h.source ≡ b → (b ≡ true → live_gen g ≡ live_gen h) → history_lives (g ∷ []) ≡ history_lives (h ∷ [])
one_as g h true e f same =
    ap (λ b. map live_gen (cond b (g ∷ []) [])) e ∙ ap (λ z. z ∷ []) (same refl) ∙ sym (ap (λ b. map live_gen (cond b (h ∷ []) [])) f)
one_as g h false e f same = ap (λ b. map live_gen (cond b (g ∷ []) [])) e ∙ sym (ap (λ b. map live_gen (cond b (h ∷ []) [])) f)

pub one_lives : (g h : RGen) → g.source ≡ h.source → (is_history h.source ≡ true → live_gen g ≡ live_gen h) → history_lives (g ∷ []) ≡ history_lives (h ∷ [])
one_lives g h same live = one_as g h (is_history h.source) (ap is_history same) refl live

-- The live patterns of the longer nodes are those of the nodes and those of these generators.

abbrev pub Gathers : List RGen → List Node → List Node → Type 0
Gathers gens nodes longer = IsAlike (history_lives (node_gens longer)) (history_lives (node_gens nodes) ++ history_lives gens)

pub gathers_none : (nodes : List Node) → Gathers [] nodes nodes
gathers_none nodes = alike_as (history_lives (node_gens nodes)) (history_lives (node_gens nodes) ++ []) (sym (append-nil (history_lives (node_gens nodes))))

pub gathers_then : (a b : List RGen) (x y z : List Node) → Gathers a x y → Gathers b y z → Gathers (a ++ b) x z
gathers_then a b x y z one two =
    let lives : List Node → List LivePattern = λ nodes. history_lives (node_gens nodes) in
    IsAlike-trans (lives z) (lives y ++ history_lives b) (lives x ++ history_lives (a ++ b)) two
    (IsAlike-trans (lives y ++ history_lives b) ((lives x ++ history_lives a) ++ history_lives b) (lives x ++ history_lives (a ++ b))
    (alike_both (lives y) (lives x ++ history_lives a) (history_lives b) (history_lives b) one (IsAlike-refl (history_lives b)))
    (alike_as ((lives x ++ history_lives a) ++ history_lives b) (lives x ++ history_lives (a ++ b)) (append_assoc (lives x) (history_lives a) (history_lives b) ∙ ap (λ zs. lives x ++ zs) (sym (lives-append a b)))))

-- with nodes that have no generator
pub gathers_more : (a : List RGen) (x y z : List Node) → Gathers a x y → Gathers [] y z → Gathers a x z
gathers_more a x y z one two = subst (λ gens. Gathers gens x z) (append-nil a) (gathers_then a [] x y z one two)

pub gathers_alike : (a b : List RGen) (x y : List Node) → IsAlike (history_lives a) (history_lives b) → Gathers a x y → Gathers b x y
gathers_alike a b x y alike gathers =
    IsAlike-trans (history_lives (node_gens y)) (history_lives (node_gens x) ++ history_lives a) (history_lives (node_gens x) ++ history_lives b) gathers
    (alike_both (history_lives (node_gens x)) (history_lives (node_gens x)) (history_lives a) (history_lives b) (IsAlike-refl (history_lives (node_gens x))) alike)

-- A node that is added.

push_gens : (nodes : List Node) (n : Node) → node_gens (nodes ++ n ∷ []) ≡ node_gens nodes ++ gen_of n
push_gens nodes n = flat_map-append gen_of nodes (n ∷ []) ∙ ap (λ z. node_gens nodes ++ z) (append-nil (gen_of n))

pushed : (nodes : List Node) (n : Node) → Gathers (gen_of n) nodes (nodes ++ n ∷ [])
pushed nodes n = alike_as (history_lives (node_gens (nodes ++ n ∷ []))) (history_lives (node_gens nodes) ++ history_lives (gen_of n)) (ap history_lives (push_gens nodes n) ∙ lives-append (node_gens nodes) (gen_of n))

pub has_got : {A : Type 0} (xs : List A) (i : ℕ) (x : A) → slice_get xs i ≡ Some x → Has xs x
has_got [] i x e = absurd (cc)
has_got (y ∷ ys) zero x e = let same : x ≡ y = cc in inl same
has_got (y ∷ ys) (suc i) x e = inr (has_got ys i x e)

found_there : (nodes : List Node) (n : Node) (k : ℕ) → position (same_node n) nodes ≡ Some k → Has nodes n
found_there nodes n k found =
    let (within, same, first) = position-Some (same_node n) nodes k node.Root found in
    subst (Has nodes) (sym (one_from_test n (get_or nodes k node.Root) same)) (has_got nodes k (get_or nodes k node.Root) (slice_get-get_or nodes k node.Root within))

there_again : (nodes : List Node) (n : Node) → Has nodes n → (x : LivePattern) → Has (history_lives (gen_of n)) x → Has (history_lives (node_gens nodes)) x
there_again nodes n h x k =
    let (g, own, over, e) = of_lives (gen_of n) x k in
    has_live (node_gens nodes) g x (Has-flat_map gen_of nodes n g h own) over e

placed_gathers : (nodes : List Node) (n : Node) (o : Option ℕ) → position (same_node n) nodes ≡ o → Gathers (gen_of n) nodes (placed n nodes o).0
placed_gathers nodes n None e = pushed nodes n
placed_gathers nodes n (Some k) e = alike_within (history_lives (node_gens nodes)) (history_lives (gen_of n)) (there_again nodes n (found_there nodes n k e))

pub added_gathers : (nodes : List Node) (n : Node) → Gathers (gen_of n) nodes (added nodes n).0
added_gathers nodes n = placed_gathers nodes n (position (same_node n) nodes) refl

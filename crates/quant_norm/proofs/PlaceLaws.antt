-- Nodes that are added, and the rows at places.
use Rattle.std.specs.Prelude.{◌≡◌, ◌⊎◌, ◌<◌, ◌≤◌, ◌+◌, ℕ, true, List, [], ◌∷◌, ◌++◌, length, position, get_or, slice_get, Option, Some, None, refl}
use Rattle.std.specs.List.{AllByRecursion}
use Rattle.std.proofs.Common.{ap, sym, subst, ◌∙◌, inl, inr, arith, length-append, append_assoc, append-nil}
use Rattle.std.proofs.lemmas.Bool.{cases_lt}
use Rattle.std.proofs.lemmas.List.Quantifiers.{position-Some}
use Rattle.std.proofs.lemmas.Option.{slice_get_within, slice_get-get_or}
use Rattle.da_values.specs.Sets.{Has}
use Rattle.da_lang.specs.declared.query.Cond.{Cond}
use Rattle.da_lang.specs.declared.query.Node.{Node}
use Rattle.da_lang.specs.declared.query.Node.TheVariants as node
use Rattle.da_lang.specs.Matching.{Row, Extends}
use Rattle.da_lang.specs.Queries.{holds}
use Rattle.da_lang.specs.World.{Data}
use Rattle.query_plan.specs.Nodes.{node_rows, width_step, width_of, reads, ReadsBelow, IsEven, IsPlan}
use Rattle.query_plan.specs.Plans.{Place, placed, added, at_node, filter_on, semi_on, anti_on}
use Rattle.query_plan.specs.Spelled.{same_node}
use Rattle.query_plan.proofs.NodeLaws.{InNode, node_rows-front, of_rows, in_rows, of_set, in_set, node_rows-last}
use Rattle.query_plan.proofs.SpelledLaws.{one_from_test}
use Rattle.query_plan.proofs.WidthLaws.{width_of-front, width_of-last, width_of-at, rows_wide}
use Rattle.quant_norm.specs.GoodPlaces.{Good}
use Rattle.quant_norm.proofs.RenameLaws.{get_front}

-- nodes that begin with others
abbrev pub Grown : List Node → List Node → Type 0
Grown nodes longer = (more : List Node) × (longer ≡ nodes ++ more)

pub grown_itself : (nodes : List Node) → Grown nodes nodes
grown_itself nodes = ([], sym (append-nil nodes))

pub grown_on : (a b c : List Node) → Grown a b → Grown b c → Grown a c
grown_on a b c (more, e) (most, f) = (more ++ most, f ∙ ap (λ z. z ++ most) e ∙ append_assoc a more most)

pub still_there : (nodes longer : List Node) (i : ℕ) → Grown nodes longer → i < length nodes → i < length longer
still_there nodes longer i (more, e) below = omega (arith, ap length e ∙ length-append nodes more, below)

pub width_stays : (nodes longer : List Node) (i : ℕ) → Grown nodes longer → i < length nodes → width_of longer i ≡ width_of nodes i
width_stays nodes longer i (more, e) below = ap (λ z. width_of z i) e ∙ width_of-front nodes more i below

-- A further node in a plan.

even_local : (f g : ℕ → ℕ) (n : Node) → AllByRecursion (λ j. f j ≡ g j) (reads n) → IsEven f n → IsEven g n
even_local f g node.Root same even = even
even_local f g (node.Gen p gen) same even = even
even_local f g (node.Filter p b) same even = even
even_local f g (node.Semi p c) same even = omega (arith, even, same.0, same.1.0)
even_local f g (node.Anti p c) same even = omega (arith, even, same.0, same.1.0)
even_local f g (node.Union a b) same even = sym same.0 ∙ even ∙ same.1.0
even_local f g (node.AggBind p c op t other) same even = omega (arith, even, same.0, same.1.0)

same_widths : (nodes more : List Node) (js : List ℕ) (i : ℕ) → i ≤ length nodes → AllByRecursion (λ j. j < i) js → AllByRecursion (λ j. width_of nodes j ≡ width_of (nodes ++ more) j) js
same_widths nodes more [] i less all = tt
same_widths nodes more (j ∷ js) i less all = (sym (width_of-front nodes more j (omega (arith, less, all.0))), same_widths nodes more js i less all.1)

last_got : {A : Type 0} (xs : List A) (x : A) → slice_get (xs ++ x ∷ []) (length xs) ≡ Some x
last_got [] x = refl
last_got (y ∷ xs) x = last_got xs x

one_after : {A : Type 0} (xs : List A) (x : A) → length (xs ++ x ∷ []) ≡ length xs + 1
one_after xs x = length-append xs (x ∷ [])

pub plan_push : (nodes : List Node) (n : Node) → IsPlan nodes → ReadsBelow (length nodes) n → IsEven (width_of nodes) n → IsPlan (nodes ++ n ∷ [])
plan_push nodes n plan below even i m there = elim (cases_lt i (length nodes)) [
  | inl less ↦ (
      let (reads_below, is_even) = plan i m (sym (get_front nodes (n ∷ []) i less) ∙ there) in
      (reads_below, even_local (width_of nodes) (width_of (nodes ++ n ∷ [])) m (same_widths nodes (n ∷ []) (reads m) i (omega (arith, less)) reads_below) is_even))
  | inr past ↦ (
      let within : i < length (nodes ++ n ∷ []) = slice_get_within (nodes ++ n ∷ []) i m there in
      let last : i ≡ length nodes = omega (arith, past, within, one_after nodes n) in
      let found : ◌≡◌ {A = Option Node} (Some n) (Some m) = sym (last_got nodes n) ∙ ap (slice_get (nodes ++ n ∷ [])) (sym last) ∙ there in
      let same : n ≡ m = cc in
      subst (λ z. ReadsBelow i z × IsEven (width_of (nodes ++ n ∷ [])) z) same (
        subst (λ k. ReadsBelow k n) (sym last) below,
        even_local (width_of nodes) (width_of (nodes ++ n ∷ [])) n (same_widths nodes (n ∷ []) (reads n) (length nodes) (omega arith) below) even,
      ))
]

-- the same place among more nodes
pub good_on : (nodes longer : List Node) (at : Place) → Good nodes at → Grown nodes longer → IsPlan longer → Good longer at
good_on nodes longer at good grown plan = record {
  plan = plan;
  there = still_there nodes longer at.node grown good.there;
  wide = width_stays nodes longer at.node grown good.there ∙ good.wide;
  vars_in = good.vars_in;
}

module _ (d : Data) where
  -- what a node that was added has
  pub record Made (n : Node) (nodes : List Node) (end : List Node × ℕ) : Type 0 where
    pub grown : Grown nodes end.0
    pub plan : IsPlan end.0
    pub there : end.1 < length end.0
    pub wide : width_of end.0 end.1 ≡ width_step (width_of nodes) n
    pub into : (r : Row) → InNode d (node_rows d nodes) n r → Has (node_rows d end.0 end.1) r
    pub from : (r : Row) → Has (node_rows d end.0 end.1) r → InNode d (node_rows d nodes) n r

  new_made : (nodes : List Node) (n : Node) → IsPlan nodes → ReadsBelow (length nodes) n → IsEven (width_of nodes) n → Made n nodes (nodes ++ n ∷ [], length nodes)
  new_made nodes n plan below even = record {
    grown = (n ∷ [], refl);
    plan = plan_push nodes n plan below even;
    there = omega (arith, one_after nodes n);
    wide = width_of-last nodes n;
    into = λ r k. subst (λ z. Has z r) (sym (node_rows-last d nodes n)) (in_set d (node_rows d nodes) n r k);
    from = λ r h. of_set d (node_rows d nodes) n r (subst (λ z. Has z r) (node_rows-last d nodes n) h);
  }

  old_made : (nodes : List Node) (n : Node) (k : ℕ) → IsPlan nodes → slice_get nodes k ≡ Some n → Made n nodes (nodes, k)
  old_made nodes n k plan found = record {
    grown = grown_itself nodes;
    plan = plan;
    there = slice_get_within nodes k n found;
    wide = width_of-at nodes k n found (plan k n found).0;
    into = λ r h. in_rows d nodes k n r found (plan k n found).0 h;
    from = λ r h. of_rows d nodes k n r found (plan k n found).0 h;
  }

  -- an equal node is the one that is there
  same_found : (nodes : List Node) (n : Node) (k : ℕ) → position (same_node n) nodes ≡ Some k → slice_get nodes k ≡ Some n
  same_found nodes n k found =
      let (within, same, first) = position-Some (same_node n) nodes k node.Root found in
      slice_get-get_or nodes k node.Root within ∙ ap Some (sym (one_from_test n (get_or nodes k node.Root) same))

  made_as : (nodes : List Node) (n : Node) → IsPlan nodes → ReadsBelow (length nodes) n → IsEven (width_of nodes) n → (o : Option ℕ) → position (same_node n) nodes ≡ o → Made n nodes (placed n nodes o)
  made_as nodes n plan below even None e = new_made nodes n plan below even
  made_as nodes n plan below even (Some k) e = old_made nodes n k plan (same_found nodes n k e)

  pub added_made : (nodes : List Node) (n : Node) → IsPlan nodes → ReadsBelow (length nodes) n → IsEven (width_of nodes) n → Made n nodes (added nodes n)
  added_made nodes n plan below even = made_as nodes n plan below even (position (same_node n) nodes) refl

  -- the rows of a node among more nodes
  pub later : (nodes longer : List Node) (i : ℕ) (r : Row) → Grown nodes longer → i < length nodes → Has (node_rows d nodes i) r → Has (node_rows d longer i) r
  later nodes longer i r (more, e) below h = subst (λ z. Has z r) (sym (ap (λ ns. node_rows d ns i) e ∙ node_rows-front d nodes more i below)) h

  pub sooner : (nodes longer : List Node) (i : ℕ) (r : Row) → Grown nodes longer → i < length nodes → Has (node_rows d longer i) r → Has (node_rows d nodes i) r
  sooner nodes longer i r (more, e) below h = subst (λ z. Has z r) (ap (λ ns. node_rows d ns i) e ∙ node_rows-front d nodes more i below) h

  pub row_wide : (nodes : List Node) (at : Place) → Good nodes at → (r : Row) → Has (node_rows d nodes at.node) r → length r ≡ at.width
  row_wide nodes at good r h = rows_wide d nodes good.plan at.node r h ∙ good.wide

  -- the node has the rows of the place of which P holds
  pub record Kept (P : Row → Type 0) (nodes : List Node) (at : Place) (end : List Node × ℕ) : Type 0 where
    pub grown : Grown nodes end.0
    pub good : Good end.0 (at_node at end.1)
    pub into : (r : Row) → Has (node_rows d nodes at.node) r → P r → Has (node_rows d end.0 end.1) r
    pub from : (r : Row) → Has (node_rows d end.0 end.1) r → Has (node_rows d nodes at.node) r × P r

  pub kept_by : (P Q : Row → Type 0) (nodes : List Node) (at : Place) (end : List Node × ℕ) → ((r : Row) → Has (node_rows d nodes at.node) r → (P r → Q r) × (Q r → P r)) → Kept P nodes at end → Kept Q nodes at end
  kept_by P Q nodes at end both kept = record {
    grown = kept.grown;
    good = kept.good;
    into = λ r h q. kept.into r h ((both r h).1 q);
    from = λ r h. let (there, p) = kept.from r h in (there, (both r there).0 p);
  }

  pub kept_then : (P Q : Row → Type 0) (nodes : List Node) (at : Place) (middle end : List Node × ℕ) → Kept P nodes at middle → Kept Q middle.0 (at_node at middle.1) end → Kept (λ r. P r × Q r) nodes at end
  kept_then P Q nodes at middle end one two = record {
    grown = grown_on nodes middle.0 end.0 one.grown two.grown;
    good = two.good;
    into = λ r h both. two.into r (one.into r h both.0) both.1;
    from = λ r h. let (between, q) = two.from r h in let (there, p) = one.from r between in (there, (p, q));
  }

  pub kept_all : (P : Row → Type 0) (nodes : List Node) (at : Place) → Good nodes at → ((r : Row) → Has (node_rows d nodes at.node) r → P r) → Kept P nodes at (nodes, at.node)
  kept_all P nodes at good all = record {
    grown = grown_itself nodes;
    good = good;
    into = λ r h p. h;
    from = λ r h. (h, all r h);
  }

  -- from what a node that was added has
  kept_made : (P : Row → Type 0) (n : Node) (nodes before : List Node) (at : Place) (end : List Node × ℕ) → Good nodes at → Grown nodes before → Made n before end → width_step (width_of before) n ≡ at.width
      → ((r : Row) → Has (node_rows d nodes at.node) r → P r → InNode d (node_rows d before) n r) → ((r : Row) → InNode d (node_rows d before) n r → Has (node_rows d nodes at.node) r × P r) → Kept P nodes at end
  kept_made P n nodes before at end good grown made wide into from = record {
    grown = grown_on nodes before end.0 grown made.grown;
    good = record { plan = made.plan; there = made.there; wide = made.wide ∙ wide; vars_in = good.vars_in };
    into = λ r h p. made.into r (into r h p);
    from = λ r h. from r (made.from r h);
  }

  pub filter_kept : (b : Cond) (nodes : List Node) (at : Place) → Good nodes at → Kept (λ r. holds d b r ≡ true) nodes at (filter_on b at nodes)
  filter_kept b nodes at good =
      let made = added_made nodes (node.Filter at.node b) good.plan (good.there, tt) tt in
      kept_made (λ r. holds d b r ≡ true) (node.Filter at.node b) nodes nodes at (filter_on b at nodes) good (grown_itself nodes)
      made good.wide (λ r h e. (h, e)) (λ r k. k)

  -- a place, and a node that stands after it
  pub semi_kept : (nodes : List Node) (at : Place) (child : List Node × ℕ) → Good nodes at → Grown nodes child.0 → IsPlan child.0 → child.1 < length child.0 → at.width ≤ width_of child.0 child.1 → Kept (λ r. (s : Row) × Has (node_rows d child.0 child.1) s × Extends r s) nodes at (semi_on at child)
  semi_kept nodes at child good grown plan there fits =
      let wide : width_of child.0 at.node ≡ at.width = width_stays nodes child.0 at.node grown good.there ∙ good.wide in
      let made = added_made child.0 (node.Semi at.node child.1) plan (still_there nodes child.0 at.node grown good.there, (there, tt)) (omega (arith, wide, fits)) in
      kept_made (λ r. (s : Row) × Has (node_rows d child.0 child.1) s × Extends r s) (node.Semi at.node child.1) nodes child.0 at (semi_on at child) good grown
      made
      wide
      (λ r h found. (later nodes child.0 at.node r grown good.there h, found))
      (λ r k. (sooner nodes child.0 at.node r grown good.there k.0, k.1))

  pub anti_kept : (nodes : List Node) (at : Place) (child : List Node × ℕ) → Good nodes at → Grown nodes child.0 → IsPlan child.0 → child.1 < length child.0 → at.width ≤ width_of child.0 child.1 → Kept (λ r. (s : Row) → Has (node_rows d child.0 child.1) s → Extends r s → ⊥) nodes at (anti_on at child)
  anti_kept nodes at child good grown plan there fits =
      let wide : width_of child.0 at.node ≡ at.width = width_stays nodes child.0 at.node grown good.there ∙ good.wide in
      let made = added_made child.0 (node.Anti at.node child.1) plan (still_there nodes child.0 at.node grown good.there, (there, tt)) (omega (arith, wide, fits)) in
      kept_made (λ r. (s : Row) → Has (node_rows d child.0 child.1) s → Extends r s → ⊥) (node.Anti at.node child.1) nodes child.0 at (anti_on at child) good grown
      made
      wide
      (λ r h none. (later nodes child.0 at.node r grown good.there h, none))
      (λ r k. (sooner nodes child.0 at.node r grown good.there k.0, k.1))

  -- two nodes with rows of the place
  pub union_kept : (P Q : Row → Type 0) (nodes : List Node) (at : Place) (left right : List Node × ℕ) → Good nodes at → Kept P nodes at left → Kept Q left.0 at right → Kept (λ r. P r ⊎ Q r) nodes at (added right.0 (node.Union left.1 right.1))
  union_kept P Q nodes at left right good one two =
      let left_there : left.1 < length right.0 = still_there left.0 right.0 left.1 two.grown one.good.there in
      let left_wide : width_of right.0 left.1 ≡ at.width = width_stays left.0 right.0 left.1 two.grown one.good.there ∙ one.good.wide in
      let made = added_made right.0 (node.Union left.1 right.1) two.good.plan (left_there, (two.good.there, tt)) (left_wide ∙ sym two.good.wide) in
      kept_made (λ r. P r ⊎ Q r) (node.Union left.1 right.1) nodes right.0 at (added right.0 (node.Union left.1 right.1)) good (grown_on nodes left.0 right.0 one.grown two.grown)
      made
      left_wide
      (λ r h either. elim either [
        | inl p ↦ inl (later left.0 right.0 left.1 r two.grown one.good.there (one.into r h p))
        | inr q ↦ inr (two.into r (later nodes left.0 at.node r one.grown good.there h) q)
      ])
      (λ r k. elim k [
        | inl x ↦ (let (there, p) = one.from r (sooner left.0 right.0 left.1 r two.grown one.good.there x) in (there, inl p))
        | inr y ↦ (let (there, q) = two.from r y in (sooner nodes left.0 at.node r one.grown good.there there, inr q))
      ])

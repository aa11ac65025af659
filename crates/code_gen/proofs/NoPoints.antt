-- Statements among which none yields hold no yield points.
use Rattle.std.proofs.Common.{◌≡◌, true, false, List, [], ◌∷◌, ◌++◌, map, refl, sym, ap, ◌∙◌, subst, inl, inr}
use Rattle.std.specs.Prelude.{flat_map}
use Rattle.std.specs.List.{AllByRecursion}
use Rattle.da_values.specs.Sets.{Has}
use Rattle.da_lang.specs.declared.program.Alt.{Alt}
use Rattle.da_lang.specs.declared.program.Item.{Item, roll-Item}
use Rattle.da_lang.specs.declared.program.ItemKind.{ItemKind, out-ItemKind}
use Rattle.da_lang.specs.declared.program.ItemKind.TheOpen as kind
use Rattle.da_lang.specs.declared.program.ItemKind.TheOpen.{ItemKind-F}
use Rattle.da_lang.specs.declared.program.ItemKind.TheVariants as it
use Rattle.da_lang.specs.declared.program.ItemKind.TheViews.{out-RBranch, out-roll-Item, out-roll-RBranch}
use Rattle.da_lang.specs.declared.program.RBranch.{RBranch}
use Rattle.da_lang.specs.Runs.{kind_yields}
use Rattle.da_lang.specs.Shaped.{Within, here, deeper, blocks_in}
use Rattle.da_lang.specs.Turns.{kind_of}
use Rattle.da_lang.proofs.ItemInduction.{ItemCases, items_induction}
use Rattle.da_machine.specs.Points.{points_in}
use Rattle.da_types.specs.KeepsShaped.{HasNoYield}
use Rattle.code_gen.specs.Made.{block_points, branch_points}
use Rattle.code_gen.proofs.PointLaws.{points_at, points_in_kind}

-- one statement alone
abbrev OfItem : Item → Type 0
OfItem i = HasNoYield (i ∷ []) → points_in i ≡ []

abbrev OfKind : ItemKind → Type 0
OfKind k = (i : Item) → kind_of i ≡ out-ItemKind k → HasNoYield (i ∷ []) → points_in i ≡ []

abbrev OfBranch : RBranch → Type 0
OfBranch b = HasNoYield (out-RBranch b).body → branch_points b ≡ []

in_head : (x : Item) (xs : List Item) (j : Item) → Within j (x ∷ []) → Within j (x ∷ xs)
in_head x xs j (here (inl is)) = here (inl is)
in_head x xs j (here (inr h)) = absurd h
in_head x xs j (deeper k body (inl is) b w) = deeper k body (inl is) b w
in_head x xs j (deeper k body (inr h) b w) = absurd h

in_tail : (x : Item) (xs : List Item) (j : Item) → Within j xs → Within j (x ∷ xs)
in_tail x xs j (here h) = here (inr h)
in_tail x xs j (deeper k body h b w) = deeper k body (inr h) b w

block_none : (items : List Item) → AllByRecursion OfItem items → HasNoYield items → block_points items ≡ []
block_none [] all none = refl
block_none (x ∷ xs) all none =
    ap (λ l. l ++ block_points xs) (all.0 (λ j w. none j (in_head x xs j w))) ∙ block_none xs all.1 (λ j w. none j (in_tail x xs j w))

-- a block of a statement
inside : (i : Item) (k : ItemKind-F ItemKind Alt Item RBranch) (body : List Item) → kind_of i ≡ k → Has (blocks_in k) body → HasNoYield (i ∷ []) → HasNoYield body
inside i k body is h none j w = none j (deeper i body (inl refl) (subst (λ z. Has (blocks_in z) body) (sym is) h) w)

left : (A : Type 0) (xs ys : List A) (x : A) → Has xs x → Has (xs ++ ys) x
left A [] ys x h = absurd h
left A (y ∷ xs) ys x (inl is) = inl is
left A (y ∷ xs) ys x (inr h) = inr (left A xs ys x h)

last : (A : Type 0) (xs : List A) (y : A) → Has (xs ++ y ∷ []) y
last A [] y = inl refl
last A (x ∷ xs) y = inr (last A xs y)

branches_none : (bs : List RBranch) → AllByRecursion OfBranch bs → ((body : List Item) → Has (map (λ b. (out-RBranch b).body) bs) body → HasNoYield body) → flat_map branch_points bs ≡ []
branches_none [] all none = refl
branches_none (b ∷ bs) all none =
    ap (λ l. l ++ flat_map branch_points bs) (all.0 (none (out-RBranch b).body (inl refl))) ∙ branches_none bs all.1 (λ body h. none body (inr h))

of_kind : (i : Item) (k : ItemKind-F ItemKind Alt Item RBranch) → kind_of i ≡ k → points_in_kind k ≡ [] → points_in i ≡ []
of_kind i k is none = points_at i ∙ ap points_in_kind is ∙ none

yields_no : (i : Item) (k : ItemKind-F ItemKind Alt Item RBranch) → kind_of i ≡ k → kind_yields k ≡ true → HasNoYield (i ∷ []) → points_in i ≡ []
yields_no i k is yields none =
    let no : kind_yields (kind_of i) ≡ false = none i (here (inl refl)) in
    let bad : true ≡ false = sym yields ∙ ap kind_yields (sym is) ∙ no in
    absurd (cc)

cases : ItemCases
cases = record {
  Of_kind = OfKind;
  Of_alt = λ a. Unit {0};
  Of_item = OfItem;
  Of_branch = OfBranch;
  assign = λ s e i is none. of_kind i (kind.Assign s e) (is ∙ it.outs-Assign s e) refl;
  add = λ s e i is none. of_kind i (kind.Add s e) (is ∙ it.outs-Add s e) refl;
  del = λ s e i is none. of_kind i (kind.Del s e) (is ∙ it.outs-Del s e) refl;
  send = λ m e i is none. of_kind i (kind.Send m e) (is ∙ it.outs-Send m e) refl;
  output = λ e i is none. of_kind i (kind.Output e) (is ∙ it.outs-Output e) refl;
  if_one = λ branches other each rest i is none.
      let k = is ∙ it.outs-If branches other in
      let blocks : (body : List Item) → Has (map (λ b. (out-RBranch b).body) branches ++ other ∷ []) body → HasNoYield body = λ body h. inside i (kind.If branches other) body k h none in
      of_kind i (kind.If branches other) k
      (ap (λ l. l ++ block_points other) (branches_none branches each (λ body h. blocks body (left (List Item) (map (λ b. (out-RBranch b).body) branches) (other ∷ []) body h)))
      ∙ block_none other rest (blocks other (last (List Item) (map (λ b. (out-RBranch b).body) branches) other)));
  while = λ e body each i is none. let k = is ∙ it.outs-While e body in of_kind i (kind.While e body) k (block_none body each (inside i (kind.While e body) body k (inl refl) none));
  for = λ s e body each i is none. let k = is ∙ it.outs-For s e body in of_kind i (kind.For s e body) k (block_none body each (inside i (kind.For s e body) body k (inl refl) none));
  call = λ args body each i is none. let k = is ∙ it.outs-Call args body in of_kind i (kind.Call args body) k (block_none body each (inside i (kind.Call args body) body k (inl refl) none));
  await = λ alts timeout label each rest i is none. yields_no i (kind.Await alts timeout label) (is ∙ it.outs-Await alts timeout label) refl none;
  label = λ l i is none. yields_no i (kind.Label l) (is ∙ it.outs-Label l) refl none;
  pass = λ i is none. of_kind i kind.Pass (is ∙ it.outs-Pass) refl;
  alt = λ b found binds body line each. tt;
  item = λ line k of none. of (roll-Item (record { line = line; kind = k })) (ap (λ z. out-ItemKind z.kind) (out-roll-Item (record { line = line; kind = k }))) none;
  branch = λ e found binds body line each none.
      let whole = ap (λ z. z.body) (out-roll-RBranch (record { cond = e; found = found; binds = binds; body = body; line = line })) in
      ap block_points whole ∙ block_none body each (subst HasNoYield whole none);
}

pub none_in : (items : List Item) → HasNoYield items → block_points items ≡ []
unfolding cases
none_in items none = block_none items (items_induction cases items) none

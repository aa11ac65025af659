-- A class of an accepted program has fewer yield points than a u32 counts.
use Rattle.std.proofs.Common.{◌≡◌, ℕ, suc, ◌+◌, ◌^◌, ◌<◌, ◌≤◌, Bool, true, false, List, [], ◌∷◌, ◌++◌, length, map, Option, Some, None, refl, sym, ap, ◌∙◌, subst, arith, length-append, inl, inr}
use Rattle.std.specs.Prelude.{flat_map, nat_lt, sum, unwrap_or}
use Rattle.std.specs.List.{AllByRecursion}
use Rattle.std.proofs.lemmas.Bool.{ltb-false}
use Rattle.std.proofs.lemmas.List.Sums.{sum_by-cons}
use Rattle.da_values.specs.Sets.{Has}
use Rattle.da_values.proofs.Members.{of_map}
use Rattle.da_lang.specs.declared.program.Alt.{Alt, roll-Alt}
use Rattle.da_lang.specs.declared.program.Class.{Class}
use Rattle.da_lang.specs.declared.program.Handler.{Handler}
use Rattle.da_lang.specs.declared.program.Item.{Item, roll-Item}
use Rattle.da_lang.specs.declared.program.ItemKind.{ItemKind, out-ItemKind}
use Rattle.da_lang.specs.declared.program.ItemKind.TheOpen as kind
use Rattle.da_lang.specs.declared.program.ItemKind.TheOpen.{ItemKind-F}
use Rattle.da_lang.specs.declared.program.ItemKind.TheVariants as it
use Rattle.da_lang.specs.declared.program.ItemKind.TheViews.{out-roll-Alt, out-roll-Item, out-roll-RBranch}
use Rattle.da_lang.specs.declared.program.Program.{Program}
use Rattle.da_lang.specs.declared.program.RBranch.{RBranch, roll-RBranch}
use Rattle.da_lang.specs.declared.tree.ClassTree.{ClassTree}
use Rattle.da_lang.specs.declared.tree.Tree.{Tree}
use Rattle.da_lang.specs.Accepted.{IsAccepted}
use Rattle.da_lang.specs.Limits.{alt_counted, branch_counted, class_items, item_count, items_over, kind_counted, limit_refusals, line_if, most_items}
use Rattle.da_lang.specs.Resolution.{resolved, resolved_class}
use Rattle.da_lang.specs.Turns.{kind_of}
use Rattle.da_lang.specs.Typing.{filled, filled_class}
use Rattle.da_lang.proofs.CountsAt.{kind_counted-If, kind_counted-While, kind_counted-For, kind_counted-Call, kind_counted-Await, alt_counted-of, item_count-of, branch_counted-of}
use Rattle.da_lang.proofs.ItemInduction.{ItemCases, items_induction}
use Rattle.da_machine.specs.Points.{class_points, points_in}
use Rattle.code_gen.specs.Made.{alt_points, block_points, branch_points, handler_points}
use Rattle.code_gen.proofs.PointLaws.{points_at, points_in_kind}

abbrev block_count : List Item → ℕ
block_count items = sum (map item_count items)

-- no more points than statements
abbrev OfItem : Item → Type 0
OfItem i = length (points_in i) ≤ item_count i

abbrev OfKind : ItemKind → Type 0
OfKind k = (i : Item) → kind_of i ≡ out-ItemKind k → length (points_in i) ≤ suc (kind_counted k)

abbrev OfBranch : RBranch → Type 0
OfBranch b = length (branch_points b) ≤ branch_counted b

abbrev OfAlt : Alt → Type 0
OfAlt a = length (alt_points a) ≤ alt_counted a

block_few : (items : List Item) → AllByRecursion OfItem items → length (block_points items) ≤ block_count items
block_few [] all = omega arith
block_few (i ∷ items) all = omega (arith, all.0, block_few items all.1, length-append (points_in i) (block_points items), sum_by-cons (λ k. k) (item_count i) (map item_count items))

branches_few : (bs : List RBranch) → AllByRecursion OfBranch bs → length (flat_map branch_points bs) ≤ sum (map branch_counted bs)
branches_few [] all = omega arith
branches_few (b ∷ bs) all = omega (arith, all.0, branches_few bs all.1, length-append (branch_points b) (flat_map branch_points bs), sum_by-cons (λ k. k) (branch_counted b) (map branch_counted bs))

alts_few : (as' : List Alt) → AllByRecursion OfAlt as' → length (flat_map alt_points as') ≤ sum (map alt_counted as')
alts_few [] all = omega arith
alts_few (a ∷ as') all = omega (arith, all.0, alts_few as' all.1, length-append (alt_points a) (flat_map alt_points as'), sum_by-cons (λ k. k) (alt_counted a) (map alt_counted as'))

-- a statement, by its kind
of_kind : (i : Item) (k : ItemKind-F ItemKind Alt Item RBranch) (n : ℕ) → kind_of i ≡ k → length (points_in_kind k) ≤ suc n → length (points_in i) ≤ suc n
of_kind i k n is few = subst (λ ps. length ps ≤ suc n) (sym (points_at i ∙ ap points_in_kind is)) few

none_few : (i : Item) (k : ItemKind-F ItemKind Alt Item RBranch) (n : ℕ) → kind_of i ≡ k → points_in_kind k ≡ [] → length (points_in i) ≤ suc n
none_few i k n is none = of_kind i k n is (let e = ap length none in omega (arith, e))

-- an `await`: itself, and those in its blocks
await_counted : (alts : List Alt) (timeout : Option (List Item)) (label : Option ℕ) → kind_counted (it.Await alts timeout label) ≡ sum (map alt_counted alts) + block_count (unwrap_or timeout [])
await_counted alts None label = kind_counted-Await alts None label
await_counted alts (Some body) label = kind_counted-Await alts (Some body) label

await_few : (i : Item) (alts : List Alt) (timeout : Option (List Item)) (label : Option ℕ) → AllByRecursion OfAlt alts → AllByRecursion OfItem (unwrap_or timeout []) → kind_of i ≡ out-ItemKind (it.Await alts timeout label)
    → length (points_in i) ≤ suc (kind_counted (it.Await alts timeout label))
await_few i alts timeout label each rest is =
    let last = unwrap_or timeout [] in
    let few : suc (length (flat_map alt_points alts ++ block_points last)) ≤ suc (kind_counted (it.Await alts timeout label)) =
    omega (arith, alts_few alts each, block_few last rest, length-append (flat_map alt_points alts) (block_points last), await_counted alts timeout label) in
    of_kind i (kind.Await alts timeout label) _ (is ∙ it.outs-Await alts timeout label) few

cases : ItemCases
cases = record {
  Of_kind = OfKind;
  Of_alt = OfAlt;
  Of_item = OfItem;
  Of_branch = OfBranch;
  assign = λ s e i is. none_few i (kind.Assign s e) _ (is ∙ it.outs-Assign s e) refl;
  add = λ s e i is. none_few i (kind.Add s e) _ (is ∙ it.outs-Add s e) refl;
  del = λ s e i is. none_few i (kind.Del s e) _ (is ∙ it.outs-Del s e) refl;
  send = λ m e i is. none_few i (kind.Send m e) _ (is ∙ it.outs-Send m e) refl;
  output = λ e i is. none_few i (kind.Output e) _ (is ∙ it.outs-Output e) refl;
  if_one = λ branches other each rest i is.
      let counted : kind_counted (it.If branches other) ≡ sum (map branch_counted branches) + block_count other = kind_counted-If branches other in
      let few : length (flat_map branch_points branches ++ block_points other) ≤ suc (kind_counted (it.If branches other)) =
      omega (arith, branches_few branches each, block_few other rest, length-append (flat_map branch_points branches) (block_points other), counted) in
      of_kind i (kind.If branches other) _ (is ∙ it.outs-If branches other) few;
  while = λ e body each i is.
      let counted : kind_counted (it.While e body) ≡ block_count body = kind_counted-While e body in
      let few : length (block_points body) ≤ suc (kind_counted (it.While e body)) = omega (arith, block_few body each, counted) in
      of_kind i (kind.While e body) _ (is ∙ it.outs-While e body) few;
  for = λ s e body each i is.
      let counted : kind_counted (it.For s e body) ≡ block_count body = kind_counted-For s e body in
      let few : length (block_points body) ≤ suc (kind_counted (it.For s e body)) = omega (arith, block_few body each, counted) in
      of_kind i (kind.For s e body) _ (is ∙ it.outs-For s e body) few;
  call = λ args body each i is.
      let counted : kind_counted (it.Call args body) ≡ block_count body = kind_counted-Call args body in
      let few : length (block_points body) ≤ suc (kind_counted (it.Call args body)) = omega (arith, block_few body each, counted) in
      of_kind i (kind.Call args body) _ (is ∙ it.outs-Call args body) few;
  await = λ alts timeout label each rest i is. await_few i alts timeout label each rest is;
  label = λ l i is. of_kind i (kind.Label l) _ (is ∙ it.outs-Label l) (omega arith);
  pass = λ i is. none_few i kind.Pass _ (is ∙ it.outs-Pass) refl;
  alt = λ b found binds body line each.
      let same : alt_points (roll-Alt (record { cond = b; found = found; binds = binds; body = body; line = line })) ≡ block_points body = ap (λ z. block_points z.body) (out-roll-Alt (record { cond = b; found = found; binds = binds; body = body; line = line })) in
      let counted : alt_counted (roll-Alt (record { cond = b; found = found; binds = binds; body = body; line = line })) ≡ block_count body = alt_counted-of b found binds body line in
      omega (arith, ap length same, block_few body each, counted);
  item = λ line k of.
      let few = of (roll-Item (record { line = line; kind = k })) (ap (λ z. out-ItemKind z.kind) (out-roll-Item (record { line = line; kind = k }))) in
      let counted : item_count (roll-Item (record { line = line; kind = k })) ≡ suc (kind_counted k) = item_count-of line k in
      omega (arith, few, counted);
  branch = λ e found binds body line each.
      let same : branch_points (roll-RBranch (record { cond = e; found = found; binds = binds; body = body; line = line })) ≡ block_points body = ap (λ z. block_points z.body) (out-roll-RBranch (record { cond = e; found = found; binds = binds; body = body; line = line })) in
      let counted : branch_counted (roll-RBranch (record { cond = e; found = found; binds = binds; body = body; line = line })) ≡ block_count body = branch_counted-of e found binds body line in
      omega (arith, ap length same, block_few body each, counted);
}

-- in a class
items_few : (items : List Item) → length (block_points items) ≤ block_count items
unfolding cases
items_few items = block_few items (items_induction cases items)

handlers_few : (hs : List Handler) → length (flat_map handler_points hs) ≤ sum (map block_count (map (λ (h : Handler). h.body) hs))
handlers_few [] = omega arith
handlers_few (h ∷ hs) = omega (arith, items_few h.body, handlers_few hs, length-append (handler_points h) (flat_map handler_points hs), sum_by-cons (λ k. k) (block_count h.body) (map block_count (map (λ (g : Handler). g.body) hs)))

class_few : (c : Class) → length (class_points c) ≤ class_items c
class_few c = omega (arith, items_few c.run, handlers_few c.handlers, length-append (block_points c.run) (flat_map handler_points c.handlers), sum_by-cons (λ k. k) (block_count c.setup) (map block_count (c.run ∷ map (λ (h : Handler). h.body) c.handlers)), sum_by-cons (λ k. k) (block_count c.run) (map block_count (map (λ (h : Handler). h.body) c.handlers)))

-- of an accepted program
pub no_left : {A : Type 0} (xs ys : List A) → xs ++ ys ≡ [] → xs ≡ []
no_left [] ys e = refl
no_left (x ∷ xs) ys e = absurd (cc)

pub no_right : {A : Type 0} (xs ys : List A) → xs ++ ys ≡ [] → ys ≡ []
no_right [] ys e = e
no_right (x ∷ xs) ys e = absurd (cc)

pub map_none : {A B : Type 0} (f : A → B) (xs : List A) → map f xs ≡ [] → xs ≡ []
map_none f [] e = refl
map_none f (x ∷ xs) e = absurd (cc)

pub classes_are : (t : Tree) → (resolved t).classes ≡ map resolved_class t.classes
unfolding resolved
classes_are t = refl

pub filled_classes : (p : Program) → (filled p).classes ≡ map (filled_class p.messages) p.classes
unfolding filled
filled_classes p = refl

most_is : most_items ≡ 16384
unfolding most_items
most_is = refl

within : (t : Tree) → limit_refusals t ≡ [] → flat_map items_over t.classes ≡ []
unfolding limit_refusals
within t e = map_none _ _ (no_right _ _ (no_left _ _ (no_left _ _ (no_left _ _ (no_left _ _ e)))))

each_within : (cs : List ClassTree) (c : ClassTree) → Has cs c → flat_map items_over cs ≡ [] → items_over c ≡ []
each_within [] c h e = absurd h
each_within (d ∷ cs) c (inl is) e = ap items_over is ∙ no_left (items_over d) (flat_map items_over cs) e
each_within (d ∷ cs) c (inr h) e = each_within cs c h (no_right (items_over d) (flat_map items_over cs) e)

no_more : (n line : ℕ) (b : Bool) → nat_lt most_items n ≡ b → line_if b line ≡ [] → n ≤ most_items
no_more n line true is none = absurd (cc)
no_more n line false is none = omega (arith, ltb-false _ _ is)

pub few_points : (p : Program) (c : Class) → IsAccepted p → Has p.classes c → length (class_points c) < 2 ^ 32
few_points p c is has =
    let q = is.untyped in
    let t = is.resolved.tree in
    let (d, own, same) = of_map (filled_class q.messages) q.classes c (subst (λ z. Has z c) (ap (λ (z : Program). z.classes) is.typed.becomes ∙ filled_classes q) has) in
    let (ct, among, made) = of_map resolved_class t.classes d (subst (λ z. Has z d) (ap (λ (z : Program). z.classes) is.resolved.resolves.becomes ∙ classes_are t) own) in
    let over = each_within t.classes ct among (within t is.resolved.resolves.within) in
    let few = no_more (class_items (resolved_class ct)) ct.line (nat_lt most_items (class_items (resolved_class ct))) refl over in
    let small : length (class_points d) ≤ most_items = subst (λ z. length (class_points z) ≤ most_items) (sym made) (omega (arith, class_few (resolved_class ct), few)) in
    let whole : length (class_points c) ≡ length (class_points d) = ap (λ z. length (class_points z)) same in
    omega (arith, small, whole, most_is)

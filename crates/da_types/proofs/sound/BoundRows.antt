-- In a program that keeps the rules of types, what a header or a handler binds has the types of a row.
use Rattle.std.specs.Prelude.{◌≡◌, refl, ℕ, suc, true, false, List, [], ◌∷◌, ◌++◌, map, length, flat_map, Some}
use Rattle.std.proofs.Common.{◌∙◌, ap, sym, subst}
use Rattle.std.proofs.lemmas.Bool.{and_parts, false≢true}
use Rattle.da_values.specs.Sets.{Has}
use Rattle.da_values.proofs.Members.{of_map, Has-map, Has-append_left}
use Rattle.da_lang.specs.declared.program.Alt.{Alt}
use Rattle.da_lang.specs.declared.program.Class.{Class}
use Rattle.da_lang.specs.declared.program.Handler.{Handler}
use Rattle.da_lang.specs.declared.program.Item.{Item}
use Rattle.da_lang.specs.declared.program.ItemKind.{ItemKind}
use Rattle.da_lang.specs.declared.program.ItemKind.TheFolds.{fold_out-RBranch}
use Rattle.da_lang.specs.declared.program.ItemKind.TheOpen.{ItemKind-F}
use Rattle.da_lang.specs.declared.program.ItemKind.TheViews.{out-Alt, out-RBranch}
use Rattle.da_lang.specs.declared.program.Program.{Program}
use Rattle.da_lang.specs.declared.program.RBranch.{RBranch}
use Rattle.da_lang.specs.declared.query.Query.{Query}
use Rattle.da_lang.specs.declared.query.Query.TheVariants as query
use Rattle.da_lang.specs.declared.tree.MessageDecl.{MessageDecl}
use Rattle.da_lang.specs.declared.ty.Ty.{Ty}
use Rattle.da_lang.specs.QueryTypes.{given, query_row}
use Rattle.da_lang.specs.ExprTypes.{truth}
use Rattle.da_lang.specs.Shaped.{IsItemOf}
use Rattle.da_lang.specs.Turns.{kind_of}
use Rattle.da_lang.specs.Typing.{Slots, Breaks, all, breaks_in, class_breaks, typed, handler_breaks, handler_row, has_type, have_found, have_types, item_breaks, kind_breaks, alt_breaks, item_breaks_step, branch_breaks, branch_broken, alt_broken, kind_broken, known}
use Rattle.da_lang.specs.World.{at_number}
use Rattle.da_types.specs.Sound.{Bound, IsSome, TakeRow, bound_by}
use Rattle.da_types.proofs.totality.Awaits.{alt_rule, blocks, blocks_none, item_keeps, keeps_rule, no_left, no_right, none_of}
use Rattle.da_types.proofs.totality.KindLaws.{holds_parts}

module _ (messages : List MessageDecl) (queries : List Query) (slots : Slots) where
  -- as many slots as types
  pub same_size : (binds : List ℕ) (types : List Ty) → have_types messages queries slots binds types ≡ true → length binds ≡ length types
  same_size [] [] e = refl
  same_size [] (ty ∷ types) e = absurd (false≢true e)
  same_size (b ∷ bs) [] e = absurd (false≢true e)
  same_size (b ∷ bs) (ty ∷ types) e = ap suc (same_size bs types (and_parts (has_type messages queries slots b ty) (have_types messages queries slots bs types) e).1)

  branch_rule : (b : RBranch) → branch_broken messages queries slots b ≡ [] → have_found messages queries slots (out-RBranch b).found (out-RBranch b).binds ≡ true
  unfolding kind_broken alt_broken item_breaks branch_broken
  branch_rule b e =
      let layer = fold_out-RBranch Breaks (List ℕ) (List ℕ) (List ℕ) (kind_breaks messages queries slots) (alt_breaks messages queries slots) (item_breaks_step messages queries slots) (branch_breaks messages queries slots) b in
      let rule = keeps_rule (out-RBranch b).line _ (no_left _ (all (map (item_breaks messages queries slots) (out-RBranch b).body)) (sym layer ∙ e)) in
      (and_parts (truth (typed messages queries slots (out-RBranch b).cond)) _ rule).1

  abbrev FoundHolds : Bound → Type 0
  FoundHolds b = have_found messages queries slots b.0 b.1 ≡ true

  found_in_kind : (y : ItemKind-F ItemKind Alt Item RBranch) → blocks messages queries slots y ≡ [] → (b : Bound) → Has (bound_by y) b → FoundHolds b
  found_in_kind (ItemKind-F.If branches other) e b h =
      let (x, among, is) = of_map (λ b. ((out-RBranch b).found, (out-RBranch b).binds)) branches b h in
      let broken = branch_broken messages queries slots in
      subst FoundHolds (sym is) (branch_rule x (none_of (λ part. part) (map broken branches ++ map (item_breaks messages queries slots) other) e (broken x) (Has-append_left (map broken branches) (map (item_breaks messages queries slots) other) (broken x) (Has-map broken branches x among))))
  found_in_kind (ItemKind-F.Await alts timeout label) e b h =
      let (x, among, is) = of_map (λ a. ((out-Alt a).found, (out-Alt a).binds)) alts b h in
      let broken = alt_broken messages queries slots in
      subst FoundHolds (sym is) (alt_rule messages queries slots x (none_of (λ part. part) (map broken alts ++ _) e (broken x) (Has-append_left (map broken alts) _ (broken x) (Has-map broken alts x among)))).1
  found_in_kind _ e b h = absurd h

  pub found_in_item : (i : Item) → item_breaks messages queries slots i ≡ [] → (b : Bound) → Has (bound_by (kind_of i)) b → FoundHolds b
  found_in_item i keeps b h = found_in_kind (kind_of i) (blocks_none messages queries slots i keeps) b h

module _ (p : Program) (c : Class) (e : breaks_in p ≡ []) (among : Has p.classes c) where
  abbrev messages : List MessageDecl
  messages = p.messages

  -- the row of the `some` of this number
  pub takes_row : (i : Item) → IsItemOf c i → (n : ℕ) (binds : List ℕ) → Has (bound_by (kind_of i)) (Some n, binds) → (asks : IsSome c.queries n) → TakeRow p c binds (query_row (known messages c.queries c.slots) (query.Quant false asks.gens asks.cond))
  takes_row i own n binds h asks =
      let holds = found_in_item messages c.queries c.slots i (item_keeps p c e among i own) (Some n, binds) h in
      let (types, is, each) = holds_parts (given (at_number c.queries n) (query_row (known messages c.queries c.slots))) (have_types messages c.queries c.slots binds) holds in
      record {
        types = types;
        is = ap (λ o. given o (query_row (known messages c.queries c.slots))) (sym asks.is) ∙ is;
        size = same_size messages c.queries c.slots binds types each;
        each = each;
      }

  no_breaks : class_breaks messages c ≡ []
  unfolding breaks_in
  no_breaks = none_of (class_breaks messages) p.classes (no_left _ _ e) c among

  -- the row of the patterns of a handler
  pub takes_message : (h : Handler) → Has c.handlers h → TakeRow p c h.binds (handler_row messages c.queries h c.slots)
  takes_message h own =
      let none : handler_breaks messages c.queries c.slots h ≡ [] = none_of (handler_breaks messages c.queries c.slots) c.handlers (no_right (flat_map (item_breaks messages c.queries c.slots) (c.setup ++ c.run)) _ no_breaks) h own in
      let (types, is, each) = holds_parts (handler_row messages c.queries h c.slots) (have_types messages c.queries c.slots h.binds) (keeps_rule h.line _ (no_left _ (flat_map (item_breaks messages c.queries c.slots) h.body) none)) in
      record { types = types; is = is; size = same_size messages c.queries c.slots h.binds types each; each = each }

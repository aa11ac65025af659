-- What the rules of types say of a statement that keeps them, by its form.
use Rattle.std.specs.Prelude.{◌≡◌, ℕ, true, ◌&&◌, List, [], ◌++◌, map, Option, Some, is_some, flat_map, slice_get}
use Rattle.std.proofs.Common.{◌∙◌, ap, sym}
use Rattle.std.proofs.lemmas.Bool.{and_parts}
use Rattle.da_values.specs.Sets.{Has}
use Rattle.da_values.proofs.Members.{Has-append_left, Has-map}
use Rattle.da_lang.specs.declared.program.Alt.{Alt}
use Rattle.da_lang.specs.declared.program.BindArg.{BindArg}
use Rattle.da_lang.specs.declared.program.Class.{Class}
use Rattle.da_lang.specs.declared.program.Handler.{Handler}
use Rattle.da_lang.specs.declared.program.Item.{Item}
use Rattle.da_lang.specs.declared.program.ItemKind.{ItemKind}
use Rattle.da_lang.specs.declared.program.ItemKind.TheFolds.{map-ItemKind, fold_out-ItemKind, fold_out-Alt, fold_out-Item, fold_out-RBranch}
use Rattle.da_lang.specs.declared.program.ItemKind.TheOpen.{ItemKind-F}
use Rattle.da_lang.specs.declared.program.ItemKind.TheViews.{out-Alt, out-Item, out-RBranch}
use Rattle.da_lang.specs.declared.program.ProcDecl.{ProcDecl}
use Rattle.da_lang.specs.declared.program.Program.{Program}
use Rattle.da_lang.specs.declared.program.RBranch.{RBranch}
use Rattle.da_lang.specs.declared.program.RExpr.{RExpr}
use Rattle.da_lang.specs.declared.program.SetupCall.{SetupCall}
use Rattle.da_lang.specs.declared.query.Query.{Query}
use Rattle.da_lang.specs.declared.tree.MessageDecl.{MessageDecl}
use Rattle.da_lang.specs.ExprTypes.{truth}
use Rattle.da_lang.specs.QueryTypes.{cond_holds, holds_of}
use Rattle.da_lang.specs.Turns.{kind_of}
use Rattle.da_lang.specs.Typing.{Breaks, Slots, all, unless, known, typed, fits_slot, fits_element, is_element, is_message, is_recipient, takes_elements, fits_params, have_found, have_types, handler_row, handler_breaks, class_breaks, call_breaks, args_fit, breaks_in, kind_broken, alt_broken, item_breaks, branch_broken, kind_breaks, alt_breaks, item_breaks_step, branch_breaks}
use Rattle.da_types.proofs.totality.Awaits.{no_left, no_right, none_of, keeps_rule}

module _ (messages : List MessageDecl) (queries : List Query) (slots : Slots) where
  abbrev item : Item → List ℕ
  item = item_breaks messages queries slots

  abbrev kind : ItemKind → Breaks
  kind = kind_broken messages queries slots

  abbrev alt : Alt → List ℕ
  alt = alt_broken messages queries slots

  abbrev branch : RBranch → List ℕ
  branch = branch_broken messages queries slots

  abbrev layer : ItemKind-F ItemKind Alt Item RBranch → Breaks
  layer y = kind_breaks messages queries slots (map-ItemKind ItemKind Alt Item RBranch Breaks (List ℕ) (List ℕ) (List ℕ) kind alt item branch y)

  item_is : (i : Item) → item i ≡ unless (out-Item i).line (layer (kind_of i)).rule ++ (layer (kind_of i)).blocks
  unfolding kind_broken alt_broken item_breaks branch_broken
  item_is i =
      fold_out-Item Breaks (List ℕ) (List ℕ) (List ℕ) (kind_breaks messages queries slots) (alt_breaks messages queries slots) (item_breaks_step messages queries slots) (branch_breaks messages queries slots) i
      ∙ ap (λ (b : Breaks). unless (out-Item i).line b.rule ++ b.blocks) (fold_out-ItemKind Breaks (List ℕ) (List ℕ) (List ℕ) (kind_breaks messages queries slots) (alt_breaks messages queries slots) (item_breaks_step messages queries slots) (branch_breaks messages queries slots) (out-Item i).kind)

  branch_is : (b : RBranch) → branch b ≡ unless (out-RBranch b).line (truth (typed messages queries slots (out-RBranch b).cond) && have_found messages queries slots (out-RBranch b).found (out-RBranch b).binds) ++ all (map item (out-RBranch b).body)
  unfolding kind_broken alt_broken item_breaks branch_broken
  branch_is b = fold_out-RBranch Breaks (List ℕ) (List ℕ) (List ℕ) (kind_breaks messages queries slots) (alt_breaks messages queries slots) (item_breaks_step messages queries slots) (branch_breaks messages queries slots) b

  alt_is : (a : Alt) → alt a ≡ unless (out-Alt a).line (cond_holds (known messages queries slots) (out-Alt a).cond [] && have_found messages queries slots (out-Alt a).found (out-Alt a).binds) ++ all (map item (out-Alt a).body)
  unfolding kind_broken alt_broken item_breaks branch_broken
  alt_is a = fold_out-Alt Breaks (List ℕ) (List ℕ) (List ℕ) (kind_breaks messages queries slots) (alt_breaks messages queries slots) (item_breaks_step messages queries slots) (branch_breaks messages queries slots) a

  -- a statement that keeps the rules
  module _ (i : Item) (keeps : item i ≡ []) where
    rule_holds : (layer (kind_of i)).rule ≡ true
    rule_holds = keeps_rule (out-Item i).line (layer (kind_of i)).rule (no_left _ (layer (kind_of i)).blocks (sym (item_is i) ∙ keeps))

    blocks_keep : (layer (kind_of i)).blocks ≡ []
    blocks_keep = no_right (unless (out-Item i).line (layer (kind_of i)).rule) (layer (kind_of i)).blocks (sym (item_is i) ∙ keeps)

    by_kind : (y : ItemKind-F ItemKind Alt Item RBranch) → kind_of i ≡ y → (layer y).rule ≡ true
    by_kind y is = ap (λ z. (layer z).rule) (sym is) ∙ rule_holds

    pub assign_rule : (s : ℕ) (x : RExpr) → kind_of i ≡ ItemKind-F.Assign s x → fits_slot messages queries slots s x ≡ true
    assign_rule s x is = by_kind (ItemKind-F.Assign s x) is

    pub add_rule : (s : ℕ) (x : RExpr) → kind_of i ≡ ItemKind-F.Add s x → fits_element messages queries slots s x ≡ true
    add_rule s x is = by_kind (ItemKind-F.Add s x) is

    pub del_rule : (s : ℕ) (x : RExpr) → kind_of i ≡ ItemKind-F.Del s x → is_element messages queries slots s x ≡ true
    del_rule s x is = by_kind (ItemKind-F.Del s x) is

    pub send_rule : (x to : RExpr) → kind_of i ≡ ItemKind-F.Send x to → (is_message messages queries slots x ≡ true) × (holds_of (typed messages queries slots to).type_ (is_recipient messages queries slots) ≡ true)
    send_rule x to is = and_parts (is_message messages queries slots x) (holds_of (typed messages queries slots to).type_ (is_recipient messages queries slots)) (by_kind (ItemKind-F.Send x to) is)

    pub output_rule : (x : RExpr) → kind_of i ≡ ItemKind-F.Output x → is_some (typed messages queries slots x).type_ ≡ true
    output_rule x is = by_kind (ItemKind-F.Output x) is

    pub while_rule : (x : RExpr) (body : List Item) → kind_of i ≡ ItemKind-F.While x body → truth (typed messages queries slots x) ≡ true
    while_rule x body is = by_kind (ItemKind-F.While x body) is

    pub for_rule : (s : ℕ) (x : RExpr) (body : List Item) → kind_of i ≡ ItemKind-F.For s x body → takes_elements messages queries slots s x ≡ true
    for_rule s x body is = by_kind (ItemKind-F.For s x body) is

    pub call_rule : (args : List BindArg) (body : List Item) → kind_of i ≡ ItemKind-F.Call args body → fits_params messages queries slots args ≡ true
    call_rule args body is = by_kind (ItemKind-F.Call args body) is

    pub branch_rule : (branches : List RBranch) (other : List Item) (b : RBranch) → kind_of i ≡ ItemKind-F.If branches other → Has branches b
        → (truth (typed messages queries slots (out-RBranch b).cond) ≡ true) × (have_found messages queries slots (out-RBranch b).found (out-RBranch b).binds ≡ true)
    branch_rule branches other b is h =
        let none : all (map branch branches ++ map item other) ≡ [] = ap (λ z. (layer z).blocks) (sym is) ∙ blocks_keep in
        let here : branch b ≡ [] = none_of (λ part. part) (map branch branches ++ map item other) none (branch b) (Has-append_left (map branch branches) (map item other) (branch b) (Has-map branch branches b h)) in
        and_parts (truth (typed messages queries slots (out-RBranch b).cond)) (have_found messages queries slots (out-RBranch b).found (out-RBranch b).binds) (keeps_rule (out-RBranch b).line _ (no_left _ (all (map item (out-RBranch b).body)) (sym (branch_is b) ∙ here)))

    pub alt_rule : (alts : List Alt) {timeout : Option (List Item)} {label : Option ℕ} (a : Alt) → kind_of i ≡ ItemKind-F.Await alts timeout label → Has alts a
        → (cond_holds (known messages queries slots) (out-Alt a).cond [] ≡ true) × (have_found messages queries slots (out-Alt a).found (out-Alt a).binds ≡ true)
    alt_rule alts a is h =
        let none = ap (λ z. (layer z).blocks) (sym is) ∙ blocks_keep in
        let here : alt a ≡ [] = none_of (λ part. part) (map alt alts ++ _) none (alt a) (Has-append_left (map alt alts) _ (alt a) (Has-map alt alts a h)) in
        and_parts (cond_holds (known messages queries slots) (out-Alt a).cond []) (have_found messages queries slots (out-Alt a).found (out-Alt a).binds) (keeps_rule (out-Alt a).line _ (no_left _ (all (map item (out-Alt a).body)) (sym (alt_is a) ∙ here)))

-- of a handler, and of a line of `setup`
module _ (p : Program) (keeps : breaks_in p ≡ []) where
  pub handler_rule : (c : Class) (h : Handler) → Has p.classes c → Has c.handlers h → holds_of (handler_row p.messages c.queries h c.slots) (have_types p.messages c.queries c.slots h.binds) ≡ true
  unfolding breaks_in
  handler_rule c h among inside =
      let none : class_breaks p.messages c ≡ [] = none_of (class_breaks p.messages) p.classes (no_left _ _ keeps) c among in
      let here : handler_breaks p.messages c.queries c.slots h ≡ [] = none_of (handler_breaks p.messages c.queries c.slots) c.handlers (no_right (flat_map (item_breaks p.messages c.queries c.slots) (c.setup ++ c.run)) _ none) h inside in
      keeps_rule h.line _ (no_left _ (flat_map (item_breaks p.messages c.queries c.slots) h.body) here)

  pub args_rule : (c : Class) (decl : ProcDecl) (call : SetupCall) → Has p.procs decl → slice_get p.classes decl.class ≡ Some c → decl.setup ≡ Some call → args_fit p.messages c c.params call.args ≡ true
  unfolding breaks_in
  args_rule c decl call among class_is setup_is =
      let none : call_breaks p.messages (slice_get p.classes decl.class) decl.setup ≡ [] = none_of (λ d. call_breaks p.messages (slice_get p.classes d.class) d.setup) p.procs (no_right (flat_map (class_breaks p.messages) p.classes) _ keeps) decl among in
      keeps_rule call.line (args_fit p.messages c c.params call.args) (ap (λ z. call_breaks p.messages z (Some call)) (sym class_is) ∙ ap (call_breaks p.messages (slice_get p.classes decl.class)) (sym setup_is) ∙ none)

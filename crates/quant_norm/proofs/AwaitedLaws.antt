-- The generators of the conditions that are met in statements are those of the statements.
use Rattle.std.specs.Prelude.{◌≡◌, ℕ, List, [], ◌∷◌, ◌++◌, map, Option, Some, None, unwrap_or, refl}
use Rattle.std.specs.List.{AllByRecursion, flat_map}
use Rattle.std.proofs.Common.{ap, sym, ◌∙◌, append_assoc}
use Rattle.da_lang.specs.declared.program.Alt.{Alt, roll-Alt}
use Rattle.da_lang.specs.declared.program.Class.{Class}
use Rattle.da_lang.specs.declared.program.Item.{Item, roll-Item}
use Rattle.da_lang.specs.declared.program.ItemKind.{ItemKind, roll-ItemKind}
use Rattle.da_lang.specs.declared.program.ItemKind.TheVariants as kind
use Rattle.da_lang.specs.declared.program.ItemKind.TheOpen.{ItemKind-F}
use Rattle.da_lang.specs.declared.program.ItemKind.TheFolds.{map-ItemKind, fold-ItemKind, fold-Alt, fold-RBranch, fold-roll-ItemKind, fold-roll-Alt, fold-roll-Item, fold-roll-RBranch}
use Rattle.da_lang.specs.declared.program.RBranch.{RBranch, roll-RBranch}
use Rattle.da_lang.specs.declared.program.RExpr.{RExpr}
use Rattle.da_lang.specs.declared.query.Cond.{Cond}
use Rattle.da_lang.specs.Live.{Gens, cond_gens, item_gens}
use Rattle.da_lang.proofs.ItemInduction.{ItemCases, item_induction}
use Rattle.da_lang.proofs.LiveLaws.{kind_gens, alt_gens, branch_gens, gens_of_item, gens_of_alt, gens_of_branch, gens-If, gens-While, gens-For, gens-Call, gens-Await, gens-Label, gens-Pass, gens-Output, gens-Send, gens-Assign, gens-Add, gens-Del}
use Rattle.query_plan.specs.Questions.{Met, Asked, Awaited, joined, kind_met_step, branch_met_step, alt_met_step, item_met_step, item_met, class_met, awaited}

-- the generators of the conditions that are met
abbrev pub met_gens : List Met → Gens
met_gens met = flat_map cond_gens (awaited met)

met_gens-append : (a b : List Met) → met_gens (a ++ b) ≡ met_gens a ++ met_gens b
met_gens-append [] b = refl
met_gens-append (Asked n ∷ a) b = met_gens-append a b
met_gens-append (Awaited c ∷ a) b = ap (λ z. cond_gens c ++ z) (met_gens-append a b) ∙ sym (append_assoc (cond_gens c) (met_gens a) (met_gens b))

-- all parts, one after the other
parts_gens : {A : Type 0} (f : A → List Met) (g : A → Gens) (xs : List A) → AllByRecursion (λ x. met_gens (f x) ≡ g x) xs → met_gens (joined (map f xs)) ≡ flat_map g xs
parts_gens f g [] each = refl
parts_gens f g (x ∷ xs) each =
    met_gens-append (f x) (joined (map f xs)) ∙ ap (λ z. z ++ met_gens (joined (map f xs))) each.0 ∙ ap (λ z. g x ++ z) (parts_gens f g xs each.1)

through_gens : {A : Type 0} (f : A → List Met) (g : A → Gens) (xs : List A) → ((x : A) → met_gens (f x) ≡ g x) → met_gens (flat_map f xs) ≡ flat_map g xs
through_gens f g [] same = refl
through_gens f g (x ∷ xs) same = met_gens-append (f x) (flat_map f xs) ∙ ap (λ z. z ++ met_gens (flat_map f xs)) (same x) ∙ ap (λ z. g x ++ z) (through_gens f g xs same)

-- what is met in a part of the text
abbrev pub kind_met : ItemKind → List Met
kind_met = fold-ItemKind (List Met) (List Met) (List Met) (List Met) kind_met_step alt_met_step item_met_step branch_met_step

abbrev pub alt_met : Alt → List Met
alt_met = fold-Alt (List Met) (List Met) (List Met) (List Met) kind_met_step alt_met_step item_met_step branch_met_step

abbrev pub branch_met : RBranch → List Met
branch_met = fold-RBranch (List Met) (List Met) (List Met) (List Met) kind_met_step alt_met_step item_met_step branch_met_step

layer : (k : ItemKind-F ItemKind Alt Item RBranch) → kind_met (roll-ItemKind k) ≡ kind_met_step (map-ItemKind ItemKind Alt Item RBranch (List Met) (List Met) (List Met) (List Met) kind_met alt_met item_met branch_met k)
layer k = fold-roll-ItemKind (List Met) (List Met) (List Met) (List Met) kind_met_step alt_met_step item_met_step branch_met_step k

pub met_is : (k : ItemKind) (l : ItemKind-F ItemKind Alt Item RBranch) → roll-ItemKind l ≡ k → kind_met k ≡ kind_met_step (map-ItemKind ItemKind Alt Item RBranch (List Met) (List Met) (List Met) (List Met) kind_met alt_met item_met branch_met l)
met_is k l e = ap kind_met (sym e) ∙ layer l

-- from what the statement is, one layer of it
kind_is : (k : ItemKind) (l : ItemKind-F ItemKind Alt Item RBranch) → roll-ItemKind l ≡ k → met_gens (kind_met k) ≡ met_gens (kind_met_step (map-ItemKind ItemKind Alt Item RBranch (List Met) (List Met) (List Met) (List Met) kind_met alt_met item_met branch_met l))
kind_is k l e = ap met_gens (met_is k l e)

abbrev OfKind : ItemKind → Type 0
OfKind k = met_gens (kind_met k) ≡ kind_gens k

abbrev OfAlt : Alt → Type 0
OfAlt a = met_gens (alt_met a) ≡ alt_gens a

abbrev OfItem : Item → Type 0
OfItem i = met_gens (item_met i) ≡ item_gens i

abbrev OfBranch : RBranch → Type 0
OfBranch b = met_gens (branch_met b) ≡ branch_gens b

body_gens : (body : List Item) → AllByRecursion OfItem body → met_gens (joined (map item_met body)) ≡ flat_map item_gens body
body_gens = parts_gens item_met item_gens

if_gens : (branches : List RBranch) (otherwise : List Item) → AllByRecursion OfBranch branches → AllByRecursion OfItem otherwise → OfKind (kind.If branches otherwise)
if_gens branches otherwise one two =
    kind_is (kind.If branches otherwise) (ItemKind-F.If branches otherwise) (kind.rolls-If branches otherwise)
    ∙ met_gens-append (joined (map branch_met branches)) (joined (map item_met otherwise))
    ∙ ap (λ z. z ++ met_gens (joined (map item_met otherwise))) (parts_gens branch_met branch_gens branches one)
    ∙ ap (λ z. flat_map branch_gens branches ++ z) (body_gens otherwise two)
    ∙ sym (gens-If branches otherwise)

await_parts : (alts : List Alt) (block : List Item) → AllByRecursion OfAlt alts → AllByRecursion OfItem block → met_gens (joined (map alt_met alts) ++ joined (map item_met block)) ≡ flat_map alt_gens alts ++ flat_map item_gens block
await_parts alts block one two =
    met_gens-append (joined (map alt_met alts)) (joined (map item_met block))
    ∙ ap (λ z. z ++ met_gens (joined (map item_met block))) (parts_gens alt_met alt_gens alts one)
    ∙ ap (λ z. flat_map alt_gens alts ++ z) (body_gens block two)

await_case : (alts : List Alt) (timeout : Option (List Item)) (label : Option ℕ) → AllByRecursion OfAlt alts → AllByRecursion OfItem (unwrap_or timeout []) → OfKind (kind.Await alts timeout label)
await_case alts None label one two =
    kind_is (kind.Await alts None label) (ItemKind-F.Await alts None label) (kind.rolls-Await alts None label)
    ∙ await_parts alts [] one two ∙ sym (gens-Await alts None label)
await_case alts (Some block) label one two =
    kind_is (kind.Await alts (Some block) label) (ItemKind-F.Await alts (Some block) label) (kind.rolls-Await alts (Some block) label)
    ∙ await_parts alts block one two ∙ sym (gens-Await alts (Some block) label)

alt_case : (b : Cond) (found : Option ℕ) (binds : List ℕ) (body : List Item) (line : ℕ) → AllByRecursion OfItem body → OfAlt (roll-Alt (record { cond = b; found = found; binds = binds; body = body; line = line }))
alt_case b found binds body line each =
    ap met_gens (fold-roll-Alt (List Met) (List Met) (List Met) (List Met) kind_met_step alt_met_step item_met_step branch_met_step (record { cond = b; found = found; binds = binds; body = body; line = line }))
    ∙ ap (λ z. cond_gens b ++ z) (body_gens body each)
    ∙ sym (gens_of_alt b found binds body line)

branch_case : (e : RExpr) (found : Option ℕ) (binds : List ℕ) (body : List Item) (line : ℕ) → AllByRecursion OfItem body → OfBranch (roll-RBranch (record { cond = e; found = found; binds = binds; body = body; line = line }))
branch_case e found binds body line each =
    ap met_gens (fold-roll-RBranch (List Met) (List Met) (List Met) (List Met) kind_met_step alt_met_step item_met_step branch_met_step (record { cond = e; found = found; binds = binds; body = body; line = line }))
    ∙ body_gens body each
    ∙ sym (gens_of_branch e found binds body line)

item_case : (line : ℕ) (k : ItemKind) → OfKind k → OfItem (roll-Item (record { line = line; kind = k }))
item_case line k law =
    ap met_gens (fold-roll-Item (List Met) (List Met) (List Met) (List Met) kind_met_step alt_met_step item_met_step branch_met_step (record { line = line; kind = k }))
    ∙ law ∙ sym (gens_of_item line k)

abbrev cases : ItemCases
cases = record {
  Of_kind = OfKind;
  Of_alt = OfAlt;
  Of_item = OfItem;
  Of_branch = OfBranch;
  assign = λ s e. kind_is (kind.Assign s e) (ItemKind-F.Assign s e) (kind.rolls-Assign s e) ∙ sym (gens-Assign s e);
  add = λ s e. kind_is (kind.Add s e) (ItemKind-F.Add s e) (kind.rolls-Add s e) ∙ sym (gens-Add s e);
  del = λ s e. kind_is (kind.Del s e) (ItemKind-F.Del s e) (kind.rolls-Del s e) ∙ sym (gens-Del s e);
  send = λ m e. kind_is (kind.Send m e) (ItemKind-F.Send m e) (kind.rolls-Send m e) ∙ sym (gens-Send m e);
  output = λ e. kind_is (kind.Output e) (ItemKind-F.Output e) (kind.rolls-Output e) ∙ sym (gens-Output e);
  if_one = if_gens;
  while = λ e body each. kind_is (kind.While e body) (ItemKind-F.While e body) (kind.rolls-While e body) ∙ body_gens body each ∙ sym (gens-While e body);
  for = λ s e body each. kind_is (kind.For s e body) (ItemKind-F.For s e body) (kind.rolls-For s e body) ∙ body_gens body each ∙ sym (gens-For s e body);
  call = λ args body each. kind_is (kind.Call args body) (ItemKind-F.Call args body) (kind.rolls-Call args body) ∙ body_gens body each ∙ sym (gens-Call args body);
  await = await_case;
  label = λ l. kind_is (kind.Label l) (ItemKind-F.Label l) (kind.rolls-Label l) ∙ sym (gens-Label l);
  pass = kind_is kind.Pass ItemKind-F.Pass kind.rolls-Pass ∙ sym gens-Pass;
  alt = alt_case;
  item = item_case;
  branch = branch_case;
}

items_met : (items : List Item) → met_gens (flat_map item_met items) ≡ flat_map item_gens items
items_met items = through_gens item_met item_gens items (item_induction cases)

pub class_awaits : (class : Class) → met_gens (class_met class) ≡ flat_map item_gens class.run ++ flat_map (λ h. flat_map item_gens h.body) class.handlers
class_awaits class =
    met_gens-append (flat_map item_met class.run) (flat_map (λ h. flat_map item_met h.body) class.handlers)
    ∙ ap (λ z. z ++ met_gens (flat_map (λ h. flat_map item_met h.body) class.handlers)) (items_met class.run)
    ∙ ap (λ z. flat_map item_gens class.run ++ z) (through_gens (λ h. flat_map item_met h.body) (λ h. flat_map item_gens h.body) class.handlers (λ h. items_met h.body))

-- What a process has to do comes from its class, also where the blocks of a statement take its place.
use Rattle.std.specs.Prelude.{◌≡◌, refl, ℕ, List, [], ◌∷◌, map, Option, Some, option_to_list}
use Rattle.std.proofs.Common.{◌∙◌, ap, sym, subst, inl, inr}
use Rattle.std.proofs.lemmas.List.Elements.{All-nil, All-cons, All-append}
use Rattle.da_values.specs.Sets.{Has}
use Rattle.da_values.proofs.Members.{Has-append_left, Has-append_right, Has-map}
use Rattle.da_lang.specs.declared.program.Alt.{Alt}
use Rattle.da_lang.specs.declared.program.BindArg.{BindArg}
use Rattle.da_lang.specs.declared.program.Class.{Class}
use Rattle.da_lang.specs.declared.program.Handler.{Handler}
use Rattle.da_lang.specs.declared.program.Item.{Item}
use Rattle.da_lang.specs.declared.program.ItemKind.{ItemKind, roll-ItemKind, roll-out-ItemKind}
use Rattle.da_lang.specs.declared.program.ItemKind.TheOpen.{ItemKind-F}
use Rattle.da_lang.specs.declared.program.ItemKind.TheVariants as it
use Rattle.da_lang.specs.declared.program.ItemKind.TheViews.{out-Alt, out-Item, out-RBranch, roll-out-Item}
use Rattle.da_lang.specs.declared.program.Program.{Program}
use Rattle.da_lang.specs.declared.program.RBranch.{RBranch}
use Rattle.da_lang.specs.declared.program.RExpr.{RExpr}
use Rattle.da_lang.specs.BodyMeaning.{item_at}
use Rattle.da_lang.specs.Shaped.{IsItemOf, ShapedTasks, IsTask, Within, here, deeper, blocks_of, blocks_in}
use Rattle.da_lang.specs.Turns.{do_all, kind_of, line_of}
use Rattle.da_lang.specs.World.{Task, Do}

-- a statement in a block of a statement stands where that one stands
within_block : (i j : Item) (items body : List Item) → Within i items → Has (blocks_of i) body → Has body j → Within j items
within_block i j items body (here h) block among = deeper i body h block (here among)
within_block i j items body (deeper k inner h inside within) block among = deeper k inner h inside (within_block i j inner body within block among)

pub block_of : (c : Class) (i j : Item) (body : List Item) → IsItemOf c i → Has (blocks_of i) body → Has body j → IsItemOf c j
block_of c i j body (items, among, within) block h = (items, among, within_block i j items body within block h)

-- a statement of one of the bodies of a class
pub setup_item : (c : Class) (j : Item) → Has c.setup j → IsItemOf c j
setup_item c j h = (c.setup, inl refl, here h)

pub run_item : (c : Class) (j : Item) → Has c.run j → IsItemOf c j
run_item c j h = (c.run, inr (inl refl), here h)

pub handler_item : (c : Class) (h : Handler) (j : Item) → Has c.handlers h → Has h.body j → IsItemOf c j
handler_item c h j among inside = (h.body, inr (inr (Has-map (λ (h : Handler). h.body) c.handlers h among)), here inside)

module _ (p : Program) (c : Class) (me : ℕ) where
  do_tasks : (items : List Item) → ((j : Item) → Has items j → IsItemOf c j) → ShapedTasks p c me (map Do items)
  do_tasks [] each = All-nil (IsTask p c me)
  do_tasks (j ∷ items) each = All-cons (IsTask p c me) (Do j) (map Do items) (each j (inl refl)) (do_tasks items (λ k h. each k (inr h)))

  pub do_all_tasks : (items : List Item) (todo : List Task) → ((j : Item) → Has items j → IsItemOf c j) → ShapedTasks p c me todo → ShapedTasks p c me (do_all items todo)
  do_all_tasks items todo each rest = All-append (IsTask p c me) (map Do items) todo (do_tasks items each) rest

  pub block_tasks : (i : Item) (body : List Item) (todo : List Task) → IsItemOf c i → Has (blocks_of i) body → ShapedTasks p c me todo → ShapedTasks p c me (do_all body todo)
  block_tasks i body todo is block rest = do_all_tasks body todo (λ j h. block_of c i j body is block h) rest

-- the block of a branch, that of an alternative or of a timeout, and the one of a loop or a call
module _ (i : Item) where
  of_kind : (k : ItemKind-F ItemKind Alt Item RBranch) (body : List Item) → kind_of i ≡ k → Has (blocks_in k) body → Has (blocks_of i) body
  of_kind k body is h = subst (λ z. Has (blocks_in z) body) (sym is) h

  pub branch_block : (branches : List RBranch) (other : List Item) (b : RBranch) → kind_of i ≡ ItemKind-F.If branches other → Has branches b → Has (blocks_of i) (out-RBranch b).body
  branch_block branches other b is h = of_kind (ItemKind-F.If branches other) (out-RBranch b).body is (Has-append_left (map (λ b. (out-RBranch b).body) branches) (other ∷ []) (out-RBranch b).body (Has-map (λ b. (out-RBranch b).body) branches b h))

  pub other_block : (branches : List RBranch) (other : List Item) → kind_of i ≡ ItemKind-F.If branches other → Has (blocks_of i) other
  other_block branches other is = of_kind (ItemKind-F.If branches other) other is (Has-append_right (map (λ b. (out-RBranch b).body) branches) (other ∷ []) other (inl refl))

  pub while_block : (x : RExpr) (body : List Item) → kind_of i ≡ ItemKind-F.While x body → Has (blocks_of i) body
  while_block x body is = of_kind (ItemKind-F.While x body) body is (inl refl)

  pub for_block : (slot : ℕ) (x : RExpr) (body : List Item) → kind_of i ≡ ItemKind-F.For slot x body → Has (blocks_of i) body
  for_block slot x body is = of_kind (ItemKind-F.For slot x body) body is (inl refl)

  pub call_block : (args : List BindArg) (body : List Item) → kind_of i ≡ ItemKind-F.Call args body → Has (blocks_of i) body
  call_block args body is = of_kind (ItemKind-F.Call args body) body is (inl refl)

  pub alt_block : (alts : List Alt) {timeout : Option (List Item)} {label : Option ℕ} (a : Alt) → kind_of i ≡ ItemKind-F.Await alts timeout label → Has alts a → Has (blocks_of i) (out-Alt a).body
  alt_block alts {timeout} {label} a is h =
      of_kind (ItemKind-F.Await alts timeout label) (out-Alt a).body is (Has-append_left (map (λ a. (out-Alt a).body) alts) (option_to_list timeout) (out-Alt a).body (Has-map (λ a. (out-Alt a).body) alts a h))

  pub timeout_block : (alts : List Alt) (body : List Item) {label : Option ℕ} → kind_of i ≡ ItemKind-F.Await alts (Some body) label → Has (blocks_of i) body
  timeout_block alts body {label} is = of_kind (ItemKind-F.Await alts (Some body) label) body is (Has-append_right (map (λ a. (out-Alt a).body) alts) (body ∷ []) body (inl refl))

  -- a `for` by its line and its kind
  pub for_item : (slot : ℕ) (x : RExpr) (body : List Item) → kind_of i ≡ ItemKind-F.For slot x body → i ≡ item_at (line_of i) (it.For slot x body)
  for_item slot x body is =
      let kind_is : (out-Item i).kind ≡ it.For slot x body = sym (roll-out-ItemKind (out-Item i).kind) ∙ ap roll-ItemKind is ∙ it.rolls-For slot x body in
      sym (roll-out-Item i) ∙ ap (λ k. item_at (line_of i) k) kind_is

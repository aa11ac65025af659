-- What statements become is as large as their extent says: its statements, its blocks, and the slots that it adds.
use Rattle.std.specs.Prelude.{◌≡◌, refl, ℕ, suc, ◌+◌, max, List, [], ◌∷◌, ◌++◌, map, length, sum, Option, Some, None, unwrap_or}
use Rattle.std.specs.List.{AllByRecursion, fold}
use Rattle.std.specs.Option.{option_map}
use Rattle.std.proofs.Common.{◌∙◌, ap, sym, arith, length-append}
use Rattle.std.proofs.lemmas.List.{length-map}
use Rattle.std.proofs.lemmas.List.Sums.{sum_by-cons}
use Rattle.da_lang.specs.declared.program.Alt.{Alt}
use Rattle.da_lang.specs.declared.program.Item.{Item}
use Rattle.da_lang.specs.declared.program.ItemKind.{ItemKind}
use Rattle.da_lang.specs.declared.program.ItemKind.TheVariants as it
use Rattle.da_lang.specs.declared.program.RBranch.{RBranch}
use Rattle.da_lang.specs.declared.program.RExpr.{RExpr}
use Rattle.da_lang.specs.declared.tree.Branch.{Branch, roll-Branch}
use Rattle.da_lang.specs.declared.tree.Expr.{Expr}
use Rattle.da_lang.specs.declared.tree.Stmt.{Stmt}
use Rattle.da_lang.specs.declared.tree.Stmt.TheVariants as stmt
use Rattle.da_lang.specs.declared.tree.TimeoutTree.{TimeoutTree, roll-TimeoutTree}
use Rattle.da_lang.specs.declared.ty.Ty.{Ty}
use Rattle.da_lang.specs.BodyMeaning.{Copy, Guarded, Becomes, AfterStmt, Stating, stating, guarding, block, block_if, bound, each, states, named_slots, as_alt, as_branch, after_label, timeout_block, waiting}
use Rattle.da_lang.specs.ExprMeaning.{Meaning, Tables, meant, all_outside}
use Rattle.da_lang.specs.ExprNames.{found_names}
use Rattle.da_lang.specs.Limits.{item_count, item_depth, block_depth, kind_counted, kind_depth_of, branch_counted, branch_depth_of, alt_counted, alt_depth_of}
use Rattle.da_lang.specs.Scopes.{Scope}
use Rattle.da_lang.specs.Written.{greatest}
use Rattle.da_lang.proofs.CondInduction.{Where}
use Rattle.da_lang.proofs.CountsAt.{kind_counted-Assign, kind_counted-Add, kind_counted-Del, kind_counted-Send, kind_counted-Output, kind_counted-If, kind_counted-While, kind_counted-For, kind_counted-Await, kind_counted-Label, kind_counted-Pass, alt_counted-of, item_count-of, branch_counted-of, kind_depth_of-Assign, kind_depth_of-Add, kind_depth_of-Del, kind_depth_of-Send, kind_depth_of-Output, kind_depth_of-If, kind_depth_of-While, kind_depth_of-For, kind_depth_of-Await, kind_depth_of-Label, kind_depth_of-Pass, alt_depth_of-of, item_depth-of, branch_depth_of-of}
use Rattle.da_lang.proofs.StatingAt.{stating_in-Assign, stating_in-Add, stating_in-Del, stating_in-Send, stating_in-Output, stating_in-Pass, stating_in-Label, stating_in-Call, stating_in-If, stating_in-While, stating_in-For, stating_in-AwaitOne, stating_in-Await, guarding-of, waiting-of}
use Rattle.da_lang.proofs.StmtInduction.{StmtCases, stmt_induction}
use Rattle.da_limits.specs.declared.extent.Extent.{Extent}
use Rattle.da_limits.specs.Capped.{capped}
use Rattle.da_limits.specs.Extents.{Called, nothing, beside, together, one, deeper, wider, as_block, else_extent, extent, extent_of_branch, extent_of_timeout}
use Rattle.da_limits.proofs.ExtentsAt.{extent-Assign, extent-Add, extent-Del, extent-Send, extent-Output, extent-Pass, extent-Label, extent-Call, extent-If, extent-While, extent-For, extent-AwaitOne, extent-Await, extent_of_branch-of, extent_of_timeout-of}
use Rattle.da_limits.proofs.SlotsKept.{slots_kept, all_slots_kept}

-- so many statements, so many blocks within each other, and from so many slots on to so many
pub record Fits (e : Extent) (items blocks before after : ℕ) : Type 0 where
  pub grown : ℕ
  pub items_are : e.items ≡ capped items
  pub blocks_are : e.blocks ≡ capped blocks
  pub slots_are : e.slots ≡ capped grown
  pub grows : after ≡ before + grown

pub nothing_fits : (n : ℕ) → Fits nothing 0 0 n n
unfolding nothing
nothing_fits n = record { grown = 0; items_are = refl; blocks_are = refl; slots_are = refl; grows = omega arith }

pub beside_fits : (x y : Extent) (a b i j l m n : ℕ) → Fits x a i l m → Fits y b j m n → Fits (beside x y) (a + b) (max i j) l n
unfolding beside
beside_fits x y a b i j l m n first second = record {
  grown = first.grown + second.grown;
  items_are = omega (arith, first.items_are, second.items_are);
  blocks_are = omega (arith, first.blocks_are, second.blocks_are);
  slots_are = omega (arith, first.slots_are, second.slots_are);
  grows = omega (arith, first.grows, second.grows);
}

pub one_fits : (x : Extent) (a i l m : ℕ) → Fits x a i l m → Fits (one x) (suc a) i l m
unfolding one
one_fits x a i l m f = record { grown = f.grown; items_are = omega (arith, f.items_are); blocks_are = f.blocks_are; slots_are = f.slots_are; grows = f.grows }

pub deeper_fits : (x : Extent) (a i l m : ℕ) → Fits x a i l m → Fits (deeper x) a (suc i) l m
unfolding deeper
deeper_fits x a i l m f = record { grown = f.grown; items_are = f.items_are; blocks_are = omega (arith, f.blocks_are); slots_are = f.slots_are; grows = f.grows }

pub wider_fits : (x : Extent) (count a i l k m : ℕ) → k ≡ l + count → Fits x a i k m → Fits (wider count x) a i l m
unfolding wider
wider_fits x count a i l k m more f =
    record { grown = count + f.grown; items_are = f.items_are; blocks_are = f.blocks_are; slots_are = omega (arith, f.slots_are); grows = omega (arith, more, f.grows) }

-- the same by other names for the same numbers
pub fits_as : {x : Extent} {a i l m : ℕ} (y : Extent) (b j k n : ℕ) → y ≡ x → b ≡ a → j ≡ i → k ≡ l → n ≡ m → Fits x a i l m → Fits y b j k n
fits_as y b j k n is items blocks before after f = record {
  grown = f.grown;
  items_are = ap (λ (e : Extent). e.items) is ∙ f.items_are ∙ ap capped (sym items);
  blocks_are = ap (λ (e : Extent). e.blocks) is ∙ f.blocks_are ∙ ap capped (sym blocks);
  slots_are = ap (λ (e : Extent). e.slots) is ∙ f.slots_are;
  grows = after ∙ f.grows ∙ ap (λ s. s + f.grown) (sym before);
}

-- parts in order, none of which sees the variables of another
module _ {A B C : Type 0} (pick : C → Becomes A) (part : B → C) (count depth : A → ℕ) (size_of : B → Extent) where
  abbrev PartFits : B → Type 0
  PartFits b = (scope : Scope Meaning) (tables : Tables) → Fits (size_of b) (count (pick (part b) scope tables).0) (depth (pick (part b) scope tables).0) (length tables.slots) (length (pick (part b) scope tables).1.slots)

  abbrev Parts : List B → Scope Meaning → Tables → List A × Tables
  Parts bs scope tables = each (map pick (map part bs)) scope tables

  parts_from : (bs : List B) → AllByRecursion PartFits bs → (x : Extent) (a i l : ℕ) (scope : Scope Meaning) (tables : Tables) → Fits x a i l (length tables.slots)
      → Fits (fold beside x (map size_of bs)) (a + sum (map count (Parts bs scope tables).0)) (max i (greatest (map depth (Parts bs scope tables).0))) l (length (Parts bs scope tables).1.slots)
  parts_from [] fit x a i l scope tables f = fits_as _ _ _ _ _ refl (omega arith) (omega arith) refl refl f
  parts_from (b ∷ bs) fit x a i l scope tables f =
      let first = pick (part b) scope tables in
      let others = Parts bs scope first.1 in
      fits_as _ _ _ _ _ refl (omega (arith, sum_by-cons (λ k. k) (count first.0) (map count others.0))) (omega arith) refl refl
      (parts_from bs fit.1 (beside x (size_of b)) (a + count first.0) (max i (depth first.0)) l scope first.1 (beside_fits _ _ _ _ _ _ _ _ _ f (fit.0 scope tables)))

  pub parts_fit : (bs : List B) → AllByRecursion PartFits bs → (scope : Scope Meaning) (tables : Tables)
      → Fits (together (map size_of bs)) (sum (map count (Parts bs scope tables).0)) (greatest (map depth (Parts bs scope tables).0)) (length tables.slots) (length (Parts bs scope tables).1.slots)
  unfolding together
  parts_fit bs fit scope tables = fits_as _ _ _ _ _ refl (omega arith) (omega arith) refl refl (parts_from bs fit nothing 0 0 (length tables.slots) scope tables (nothing_fits (length tables.slots)))

-- the copies of methods are as large as is said
pub record Copies (copy : Copy) (called : Called) : Type 0 where
  pub of : (name : List ℕ) (args : List RExpr) (tables : Tables)
      → Fits (called name) (kind_counted (copy.call name args tables).0) (kind_depth_of (copy.call name args tables).0) (length tables.slots) (length (copy.call name args tables).1.slots)

module _ (copy : Copy) (called : Called) (copied : Copies copy called) where
  abbrev StmtFits : Stmt → Type 0
  StmtFits s = (label : Option ℕ) (scope : Scope Meaning) (tables : Tables)
      → Fits (extent called s) (item_count (stating copy s label scope tables).item) (item_depth (stating copy s label scope tables).item) (length tables.slots) (length (stating copy s label scope tables).tables.slots)

  abbrev Block : List Stmt → Scope Meaning → Tables → List Item × Tables
  Block ss scope tables = block (map (stating copy) ss) scope tables

  abbrev After_label : Option ℕ → List Stmt → Scope Meaning → Tables → List Item × Tables
  After_label label ss scope tables = after_label label (map (stating copy) ss) scope tables

  stmts_from : (ss : List Stmt) → AllByRecursion StmtFits ss → (x : Extent) (a i l : ℕ) (label : Option ℕ) (scope : Scope Meaning) (tables : Tables) → Fits x a i l (length tables.slots)
      → Fits (fold beside x (map (extent called) ss)) (a + sum (map item_count (After_label label ss scope tables).0)) (max i (greatest (map item_depth (After_label label ss scope tables).0))) l (length (After_label label ss scope tables).1.slots)
  stmts_from [] fit x a i l label scope tables f = fits_as _ _ _ _ _ refl (omega arith) (omega arith) refl refl f
  stmts_from (s ∷ ss) fit x a i l label scope tables f =
      let first = stating copy s label scope tables in
      let others = After_label first.label ss first.scope first.tables in
      fits_as _ _ _ _ _ refl (omega (arith, sum_by-cons (λ k. k) (item_count first.item) (map item_count others.0))) (omega arith) refl refl
      (stmts_from ss fit.1 (beside x (extent called s)) (a + item_count first.item) (max i (item_depth first.item)) l first.label first.scope first.tables (beside_fits _ _ _ _ _ _ _ _ _ f (fit.0 label scope tables)))

  block_fits : (ss : List Stmt) → AllByRecursion StmtFits ss → (scope : Scope Meaning) (tables : Tables)
      → Fits (as_block (map (extent called) ss)) (sum (map item_count (Block ss scope tables).0)) (block_depth (map item_depth (Block ss scope tables).0)) (length tables.slots) (length (Block ss scope tables).1.slots)
  unfolding as_block together
  block_fits [] fit scope tables = nothing_fits (length tables.slots)
  block_fits (s ∷ ss) fit scope tables =
      deeper_fits _ _ _ _ _ (fits_as _ _ _ _ _ refl (omega arith) (omega arith) refl refl (stmts_from (s ∷ ss) fit nothing 0 0 (length tables.slots) None scope tables (nothing_fits (length tables.slots))))

  -- a block after new slots
  widened : {A : Type 0} (types : A → Option Ty) (xs : List A) (tables : Tables) → length (tables.slots ++ map types xs) ≡ length tables.slots + length xs
  widened types xs tables = length-append tables.slots (map types xs) ∙ ap (λ n. length tables.slots + n) (length-map xs types)

  bound_fits : (names : List (List ℕ)) (ss : List Stmt) → AllByRecursion StmtFits ss → (scope : Scope Meaning) (tables : Tables)
      → Fits (wider (length names) (as_block (map (extent called) ss))) (sum (map item_count (bound names (map (stating copy) ss) scope tables).0)) (block_depth (map item_depth (bound names (map (stating copy) ss) scope tables).0)) (length tables.slots) (length (bound names (map (stating copy) ss) scope tables).1.slots)
  bound_fits names ss fit scope tables =
      wider_fits _ _ _ _ _ _ _ (widened (λ name. None) names tables) (block_fits ss fit (named_slots names tables scope) (record { slots = tables.slots ++ map (λ name. None) names; queries = tables.queries }))

  -- two statements of one meaning
  stmt_as : (s : Stmt) (e : Extent) (b : Stating) → extent called s ≡ e → ((label : Option ℕ) (scope : Scope Meaning) (tables : Tables) → stating copy s label scope tables ≡ b label scope tables)
      → ((label : Option ℕ) (scope : Scope Meaning) (tables : Tables) → Fits e (item_count (b label scope tables).item) (item_depth (b label scope tables).item) (length tables.slots) (length (b label scope tables).tables.slots)) → StmtFits s
  stmt_as s e b is means fit label scope tables =
      fits_as _ _ _ _ _ is (ap (λ (x : AfterStmt). item_count x.item) (means label scope tables)) (ap (λ (x : AfterStmt). item_depth x.item) (means label scope tables)) refl (ap (λ (x : AfterStmt). length x.tables.slots) (means label scope tables)) (fit label scope tables)

  kind_as : (s : Stmt) (line : ℕ) (becomes : Option ℕ → Becomes ItemKind) (e : Extent) → extent called s ≡ one e
      → ((label : Option ℕ) (scope : Scope Meaning) (tables : Tables) → stating copy s label scope tables ≡ states line (becomes label) label scope tables)
      → ((label : Option ℕ) (scope : Scope Meaning) (tables : Tables) → Fits e (kind_counted (becomes label scope tables).0) (kind_depth_of (becomes label scope tables).0) (length tables.slots) (length (becomes label scope tables).1.slots)) → StmtFits s
  kind_as s line becomes e is means fit =
      stmt_as s (one e) (λ label. states line (becomes label) label) is means (λ label scope tables.
      fits_as _ _ _ _ _ refl (item_count-of line (becomes label scope tables).0) (item_depth-of line (becomes label scope tables).0) refl refl (one_fits _ _ _ _ _ (fit label scope tables)))

  -- a statement without blocks that adds no slot
  plain : (kind : ItemKind) (n m : ℕ) → kind_counted kind ≡ 0 → kind_depth_of kind ≡ 0 → m ≡ n → Fits nothing (kind_counted kind) (kind_depth_of kind) n m
  plain kind n m none flat same = fits_as _ _ _ _ _ refl none flat refl same (nothing_fits n)

  two_kept : (x y : Expr) (scope : Scope Meaning) (tables : Tables) → ((meant y).outside scope ((meant x).outside scope tables).1).1.slots ≡ tables.slots
  two_kept x y scope tables = slots_kept y scope ((meant x).outside scope tables).1 ∙ slots_kept x scope tables

  abbrev FitsAsBranch : Branch → Type 0
  FitsAsBranch = PartFits (λ (g : Guarded). g.branch) (guarding copy) branch_counted branch_depth_of (extent_of_branch called)

  abbrev FitsAsAlt : Branch → Type 0
  FitsAsAlt = PartFits (λ (g : Guarded). g.alt) (guarding copy) alt_counted alt_depth_of (extent_of_branch called)

  abbrev BranchFits : Branch → Type 0
  BranchFits b = FitsAsBranch b × FitsAsAlt b

  -- the blocks after expressions
  behind : (x : Expr) (scope : Scope Meaning) (tables : Tables) → length ((meant x).outside scope tables).1.slots ≡ length tables.slots
  behind x scope tables = ap length (slots_kept x scope tables)

  named_fit : (x : Expr) (names : List (List ℕ)) (ss : List Stmt) → AllByRecursion StmtFits ss → (scope : Scope Meaning) (tables : Tables)
      → Fits (wider (length names) (as_block (map (extent called) ss))) (sum (map item_count (bound names (map (stating copy) ss) scope ((meant x).outside scope tables).1).0))
      (block_depth (map item_depth (bound names (map (stating copy) ss) scope ((meant x).outside scope tables).1).0)) (length tables.slots) (length (bound names (map (stating copy) ss) scope ((meant x).outside scope tables).1).1.slots)
  named_fit x names ss fit scope tables = fits_as _ _ _ _ _ refl refl refl (sym (behind x scope tables)) refl (bound_fits names ss fit scope ((meant x).outside scope tables).1)

  loop_fit : (x : Expr) (ss : List Stmt) → AllByRecursion StmtFits ss → (scope : Scope Meaning) (tables : Tables)
      → Fits (as_block (map (extent called) ss)) (sum (map item_count (Block ss scope ((meant x).outside scope tables).1).0))
      (block_depth (map item_depth (Block ss scope ((meant x).outside scope tables).1).0)) (length tables.slots) (length (Block ss scope ((meant x).outside scope tables).1).1.slots)
  loop_fit x ss fit scope tables = fits_as _ _ _ _ _ refl refl refl (sym (behind x scope tables)) refl (block_fits ss fit scope ((meant x).outside scope tables).1)

  branch_fits : (x : Expr) (ss : List Stmt) (line : ℕ) → AllByRecursion StmtFits ss → BranchFits (roll-Branch (record { cond = x; body = ss; line = line }))
  branch_fits x ss line fit = (
    (λ scope tables.
        let items = bound (found_names x) (map (stating copy) ss) scope ((meant x).outside scope tables).1 in
        let is : (guarding copy (roll-Branch (record { cond = x; body = ss; line = line }))).branch scope tables ≡ as_branch line x (map (stating copy) ss) scope tables = ap (λ (g : Guarded). g.branch scope tables) (guarding-of copy x ss line) in
        fits_as _ _ _ _ _ (extent_of_branch-of called x ss line)
        (ap (λ (r : RBranch × Tables). branch_counted r.0) is ∙ branch_counted-of _ _ _ items.0 _) (ap (λ (r : RBranch × Tables). branch_depth_of r.0) is ∙ branch_depth_of-of _ _ _ items.0 _)
        refl (ap (λ (r : RBranch × Tables). length r.1.slots) is) (named_fit x (found_names x) ss fit scope tables)),
    (λ scope tables.
        let items = bound (found_names x) (map (stating copy) ss) scope ((meant x).outside scope tables).1 in
        let is : (guarding copy (roll-Branch (record { cond = x; body = ss; line = line }))).alt scope tables ≡ as_alt line x (map (stating copy) ss) scope tables = ap (λ (g : Guarded). g.alt scope tables) (guarding-of copy x ss line) in
        fits_as _ _ _ _ _ (extent_of_branch-of called x ss line)
        (ap (λ (r : Alt × Tables). alt_counted r.0) is ∙ alt_counted-of _ _ _ items.0 _) (ap (λ (r : Alt × Tables). alt_depth_of r.0) is ∙ alt_depth_of-of _ _ _ items.0 _)
        refl (ap (λ (r : Alt × Tables). length r.1.slots) is) (named_fit x (found_names x) ss fit scope tables)),
  )

  else_fits : (other : Option (List Stmt)) → Where (AllByRecursion StmtFits) other → (scope : Scope Meaning) (tables : Tables)
      → Fits (else_extent (option_map (map (extent called)) other)) (sum (map item_count (block_if (option_map (map (stating copy)) other) scope tables).0))
      (block_depth (map item_depth (block_if (option_map (map (stating copy)) other) scope tables).0)) (length tables.slots) (length (block_if (option_map (map (stating copy)) other) scope tables).1.slots)
  unfolding else_extent
  else_fits None fit scope tables = nothing_fits (length tables.slots)
  else_fits (Some ss) fit scope tables = block_fits ss fit scope tables

  firsts : {A : Type 0} (P Q : A → Type 0) (xs : List A) → AllByRecursion (λ x. P x × Q x) xs → AllByRecursion P xs
  firsts P Q [] all = tt
  firsts P Q (x ∷ xs) all = (all.0.0, firsts P Q xs all.1)

  seconds : {A : Type 0} (P Q : A → Type 0) (xs : List A) → AllByRecursion (λ x. P x × Q x) xs → AllByRecursion Q xs
  seconds P Q [] all = tt
  seconds P Q (x ∷ xs) all = (all.0.1, seconds P Q xs all.1)

  if_fits : (bs : List Branch) (other : Option (List Stmt)) (line : ℕ) → AllByRecursion BranchFits bs → Where (AllByRecursion StmtFits) other → StmtFits (stmt.If bs other line)
  if_fits bs other line fit others =
      kind_as _ line _ _ (extent-If called bs other line) (stating_in-If copy bs other line) (λ label scope tables.
      let conds = each (map (λ (g : Guarded). g.branch) (map (guarding copy) bs)) scope tables in
      let last = block_if (option_map (map (stating copy)) other) scope conds.1 in
      fits_as _ _ _ _ _ refl (kind_counted-If conds.0 last.0) (kind_depth_of-If conds.0 last.0) refl refl
      (beside_fits _ _ _ _ _ _ _ _ _ (parts_fit (λ (g : Guarded). g.branch) (guarding copy) branch_counted branch_depth_of (extent_of_branch called) bs (firsts FitsAsBranch FitsAsAlt bs fit) scope tables) (else_fits other others scope conds.1)))

  abbrev TimeoutFits : TimeoutTree → Type 0
  TimeoutFits t = (scope : Scope Meaning) (tables : Tables)
      → Fits (extent_of_timeout called t) (sum (map item_count (block (waiting copy t) scope tables).0)) (block_depth (map item_depth (block (waiting copy t) scope tables).0)) (length tables.slots) (length (block (waiting copy t) scope tables).1.slots)

  abbrev Late : Option TimeoutTree → Scope Meaning → Tables → Option (List Item) × Tables
  Late over scope tables = timeout_block (option_map (waiting copy) over) scope tables

  late_fits : (over : Option TimeoutTree) → Where TimeoutFits over → (scope : Scope Meaning) (tables : Tables)
      → Fits (unwrap_or (option_map (extent_of_timeout called) over) nothing) (sum (unwrap_or (option_map (map item_count) (Late over scope tables).0) []))
      (block_depth (unwrap_or (option_map (map item_depth) (Late over scope tables).0) [])) (length tables.slots) (length (Late over scope tables).1.slots)
  late_fits None fit scope tables = nothing_fits (length tables.slots)
  late_fits (Some t) fit scope tables = fit scope tables

  timeout_fits : (ss : List Stmt) (line : ℕ) → AllByRecursion StmtFits ss → TimeoutFits (roll-TimeoutTree (record { body = ss; line = line }))
  timeout_fits ss line fit scope tables =
      let is : block (waiting copy (roll-TimeoutTree (record { body = ss; line = line }))) scope tables ≡ Block ss scope tables = ap (λ (body : List Stating). block body scope tables) (waiting-of copy ss line) in
      fits_as _ _ _ _ _ (extent_of_timeout-of called ss line)
      (ap (λ (r : List Item × Tables). sum (map item_count r.0)) is) (ap (λ (r : List Item × Tables). block_depth (map item_depth r.0)) is)
      refl (ap (λ (r : List Item × Tables). length r.1.slots) is) (block_fits ss fit scope tables)

  await_fits : (bs : List Branch) (over : Option TimeoutTree) (line : ℕ) → AllByRecursion BranchFits bs → Where TimeoutFits over → StmtFits (stmt.Await bs over line)
  await_fits bs over line fit others =
      kind_as _ line _ _ (extent-Await called bs over line) (stating_in-Await copy bs over line) (λ label scope tables.
      let alts = each (map (λ (g : Guarded). g.alt) (map (guarding copy) bs)) scope tables in
      let last = Late over scope alts.1 in
      fits_as _ _ _ _ _ refl (kind_counted-Await alts.0 last.0 label) (kind_depth_of-Await alts.0 last.0 label) refl refl
      (beside_fits _ _ _ _ _ _ _ _ _ (parts_fit (λ (g : Guarded). g.alt) (guarding copy) alt_counted alt_depth_of (extent_of_branch called) bs (seconds FitsAsBranch FitsAsAlt bs fit) scope tables) (late_fits over others scope alts.1)))

  await_one_fits : (x : Expr) (line : ℕ) → StmtFits (stmt.AwaitOne x line)
  unfolding nothing as_block
  await_one_fits x line =
      stmt_as _ _ _ (extent-AwaitOne called x line) (stating_in-AwaitOne copy x line) (λ label scope tables.
      let alt = as_alt line x [] scope tables in
      let kind = it.Await (alt.0 ∷ []) None label in
      let counted : alt_counted alt.0 ≡ 0 = alt_counted-of _ _ _ [] _ in
      let flat : alt_depth_of alt.0 ≡ 0 = alt_depth_of-of _ _ _ [] _ in
      fits_as _ _ _ _ _ refl
      (item_count-of line kind ∙ ap suc (kind_counted-Await (alt.0 ∷ []) None label ∙ ap (λ n. sum (n ∷ []) + 0) counted))
      (item_depth-of line kind ∙ kind_depth_of-Await (alt.0 ∷ []) None label ∙ ap (λ n. max (greatest (n ∷ [])) 0) flat)
      refl refl
      (one_fits _ _ _ _ _ (named_fit x (found_names x) [] tt scope tables)))

  label_fits : (name : List ℕ) (line : ℕ) → StmtFits (stmt.Label name line)
  label_fits name line =
      let kind = it.Label (copy.number name) in
      stmt_as _ _ _ (extent-Label called name line) (stating_in-Label copy name line) (λ label scope tables.
      fits_as _ _ _ _ _ refl (item_count-of line kind) (item_depth-of line kind) refl refl (one_fits _ _ _ _ _ (plain kind _ _ (kind_counted-Label _) (kind_depth_of-Label _) refl)))

  fit_cases : StmtCases
  fit_cases = record {
    Of_stmt = StmtFits;
    Of_branch = BranchFits;
    Of_timeout = TimeoutFits;
    assign = λ name x line. kind_as _ line _ _ (extent-Assign called name x line) (stating_in-Assign copy name x line) (λ label scope tables. plain _ _ _ (kind_counted-Assign _ _) (kind_depth_of-Assign _ _) (behind x scope tables));
    add = λ name x line. kind_as _ line _ _ (extent-Add called name x line) (stating_in-Add copy name x line) (λ label scope tables. plain _ _ _ (kind_counted-Add _ _) (kind_depth_of-Add _ _) (behind x scope tables));
    delete = λ name x line. kind_as _ line _ _ (extent-Del called name x line) (stating_in-Del copy name x line) (λ label scope tables. plain _ _ _ (kind_counted-Del _ _) (kind_depth_of-Del _ _) (behind x scope tables));
    send = λ x to line. kind_as _ line _ _ (extent-Send called x to line) (stating_in-Send copy x to line) (λ label scope tables. plain _ _ _ (kind_counted-Send _ _) (kind_depth_of-Send _ _) (ap length (two_kept x to scope tables)));
    output = λ x line. kind_as _ line _ _ (extent-Output called x line) (stating_in-Output copy x line) (λ label scope tables. plain _ _ _ (kind_counted-Output _) (kind_depth_of-Output _) (behind x scope tables));
    pass = λ line. kind_as _ line _ _ (extent-Pass called line) (stating_in-Pass copy line) (λ label scope tables. plain _ _ _ kind_counted-Pass kind_depth_of-Pass refl);
    label = label_fits;
    call = λ name xs line. kind_as _ line _ _ (extent-Call called name xs line) (stating_in-Call copy name xs line) (λ label scope tables.
        let args = all_outside (map meant xs) scope tables in
        fits_as _ _ _ _ _ refl refl refl (sym (ap length (all_slots_kept xs scope tables))) refl (copied.of name args.0 args.1));
    conditional = if_fits;
    loop = λ x body line fit. kind_as _ line _ _ (extent-While called x body line) (stating_in-While copy x body line) (λ label scope tables.
        fits_as _ _ _ _ _ refl (kind_counted-While _ _) (kind_depth_of-While _ _) refl refl (loop_fit x body fit scope tables));
    each = λ name x body line fit. kind_as _ line _ _ (extent-For called name x body line) (stating_in-For copy name x body line) (λ label scope tables.
        fits_as _ _ _ _ _ refl (kind_counted-For _ _ _) (kind_depth_of-For _ _ _) refl refl (named_fit x (name ∷ []) body fit scope tables));
    await_one = await_one_fits;
    await = await_fits;
    branch = branch_fits;
    timeout = timeout_fits;
  }

  pub stmt_fits : (s : Stmt) → StmtFits s
  unfolding fit_cases
  stmt_fits = stmt_induction fit_cases

  pub all_fit : (ss : List Stmt) → AllByRecursion StmtFits ss
  all_fit [] = tt
  all_fit (s ∷ ss) = (stmt_fits s, all_fit ss)

  pub body_fits : (ss : List Stmt) (scope : Scope Meaning) (tables : Tables)
      → Fits (as_block (map (extent called) ss)) (sum (map item_count (Block ss scope tables).0)) (block_depth (map item_depth (Block ss scope tables).0)) (length tables.slots) (length (Block ss scope tables).1.slots)
  body_fits ss scope tables = block_fits ss (all_fit ss) scope tables

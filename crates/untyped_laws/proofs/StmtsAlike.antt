-- Statements become the same over such tables, by two ways to copy methods that go alike.
use Rattle.std.specs.Prelude.{◌≡◌, refl, ℕ, suc, List, [], ◌∷◌, map, length, Option, Some, None, option_map, if◌then◌else◌}
use Rattle.std.specs.List.{AllByRecursion}
use Rattle.std.proofs.Common.{◌∙◌, ap, ap₂, sym, subst}
use Rattle.da_lang.specs.declared.program.Alt.{Alt, roll-Alt}
use Rattle.da_lang.specs.declared.program.Item.{Item}
use Rattle.da_lang.specs.declared.program.ItemKind.{ItemKind}
use Rattle.da_lang.specs.declared.program.ItemKind.TheVariants as it
use Rattle.da_lang.specs.declared.program.RBranch.{RBranch, roll-RBranch}
use Rattle.da_lang.specs.declared.program.RExpr.{RExpr}
use Rattle.da_lang.specs.declared.query.Cond.{Cond}
use Rattle.da_lang.specs.declared.tree.Branch.{Branch}
use Rattle.da_lang.specs.declared.tree.Expr.{Expr, out-Expr}
use Rattle.da_lang.specs.declared.tree.Stmt.{Stmt}
use Rattle.da_lang.specs.declared.tree.TimeoutTree.{TimeoutTree}
use Rattle.da_lang.specs.declared.ty.Ty.{Ty}
use Rattle.da_lang.specs.BodyMeaning.{Becomes, Stating, AfterStmt, Guarded, Copy, next, named_slots, untyped, found_number, finds_in, after_label, block, block_if, each, item_at, states, with_expr, with_exprs, changing, slot_of, bound, as_branch, as_alt, ifs, loop, for_each, await_one, timeout_block, awaits, labels, calling, stating, guarding, waiting, body_with}
use Rattle.da_lang.specs.ExprMeaning.{Meaning, Tables, meant, all_outside}
use Rattle.da_lang.specs.ExprNames.{found_names}
use Rattle.da_lang.specs.Scopes.{Scope, look}
use Rattle.da_lang.proofs.CondInduction.{Where}
use Rattle.da_lang.proofs.StmtInduction.{StmtCases, stmt_induction}
use Rattle.da_lang.proofs.StatingAt.{stating-Assign, stating-Add, stating-Del, stating-Send, stating-Output, stating-Pass, stating-Label, stating-Call, stating-If, stating-While, stating-For, stating-AwaitOne, stating-Await, guarding-of, waiting-of}
use Rattle.untyped_laws.specs.Beside.{Beside, Both}
use Rattle.untyped_laws.proofs.BesideLaws.{beside_map}
use Rattle.untyped_laws.proofs.ExprsAlike.{expr_alike, exprs_alike}
use Rattle.untyped_laws.proofs.ListLaws.{ap₄, all_of, beside_both}
use Rattle.untyped_laws.proofs.TablesAlike.{TablesAlike, ComesAlike, GoesAlike, made, made_two, moved, next_equal, fresh_equal, named_equal, more_untyped}

module _ (R : Option Ty → Option Ty → Type 0) (r : R None None) where
  pub record AfterAlike (x y : AfterStmt) : Type 0 where
    pub item : x.item ≡ y.item
    pub label : x.label ≡ y.label
    pub scope : x.scope ≡ y.scope
    pub tables : TablesAlike R x.tables y.tables

  abbrev pub StatesAlike : Stating → Stating → Type 0
  StatesAlike f g = (label : Option ℕ) (scope : Scope Meaning) (a b : Tables) → TablesAlike R a b → AfterAlike (f label scope a) (g label scope b)

  after_alike : (fs gs : List Stating) → Beside StatesAlike fs gs → (label : Option ℕ) → GoesAlike R (after_label label fs) (after_label label gs)
  after_alike [] [] all label scope a b l = record { thing = refl; tables = l }
  after_alike [] (g ∷ gs) all label scope a b l = absurd all
  after_alike (f ∷ fs) [] all label scope a b l = absurd all
  after_alike (f ∷ fs) (g ∷ gs) all label scope a b l =
      let x = f label scope a in
      let y = g label scope b in
      let first : AfterAlike x y = all.0 label scope a b l in
      let others = after_alike fs gs all.1 x.label x.scope x.tables y.tables first.tables in
      made_two R (λ z zs. z ∷ zs) x.item y.item (after_label x.label fs x.scope x.tables) (after_label y.label gs y.scope y.tables) first.item
      (moved R (λ z s. after_label z gs s y.tables) (after_label x.label fs x.scope x.tables) x.label y.label x.scope y.scope first.label first.scope others)

  pub block_alike : (fs gs : List Stating) → Beside StatesAlike fs gs → GoesAlike R (block fs) (block gs)
  block_alike fs gs all = after_alike fs gs all None

  bound_alike : (names : List (List ℕ)) (fs gs : List Stating) → Beside StatesAlike fs gs → GoesAlike R (bound names fs) (bound names gs)
  bound_alike names fs gs all scope a b l =
      let s = named_slots names a scope in
      moved R (λ (z : Option ℕ) u. block gs u (untyped names b)) (block fs s (untyped names a)) None None s (named_slots names b scope) refl (named_equal R names a b scope l)
      (block_alike fs gs all s (untyped names a) (untyped names b) (more_untyped R r names a b l))

  found_equal : (x : Expr) (a b : Tables) → TablesAlike R a b → found_number x a ≡ found_number x b
  found_equal x a b l = ap (λ qs. if finds_in (out-Expr x) then Some (suc (length qs)) else None) l.queries

  stated : (line : ℕ) (f g : Becomes ItemKind) → GoesAlike R f g → StatesAlike (states line f) (states line g)
  stated line f g p label scope a b l = let kind = p scope a b l in record { item = ap (item_at line) kind.thing; label = refl; scope = refl; tables = kind.tables }

  with_one : (make : RExpr → ItemKind) (x : Expr) → GoesAlike R (with_expr make x) (with_expr make x)
  with_one make x scope a b l = made R make ((meant x).outside scope a) ((meant x).outside scope b) (expr_alike R x scope a b l)

  with_two : (make : RExpr → RExpr → ItemKind) (x y : Expr) → GoesAlike R (with_exprs make x y) (with_exprs make x y)
  with_two make x y scope a b l =
      let u = (meant x).outside scope a in
      let v = (meant x).outside scope b in
      let first = expr_alike R x scope a b l in
      made_two R make u.0 v.0 ((meant y).outside scope u.1) ((meant y).outside scope v.1) first.thing (expr_alike R y scope u.1 v.1 first.tables)

  with_slot : (make : ℕ → RExpr → ItemKind) (name : List ℕ) (x : Expr) → GoesAlike R (changing make name x) (changing make name x)
  with_slot make name x scope a b l = with_one (make (slot_of (look scope name))) x scope a b l

  abbrev branch_made : ℕ → RExpr → Option ℕ → List ℕ → List Item → RBranch
  branch_made line cond found binds body = roll-RBranch (record { cond = cond; found = found; binds = binds; body = body; line = line })

  branch_alike : (line : ℕ) (x : Expr) (fs gs : List Stating) → Beside StatesAlike fs gs → GoesAlike R (as_branch line x fs) (as_branch line x gs)
  branch_alike line x fs gs all scope a b l =
      let u = (meant x).outside scope a in
      let v = (meant x).outside scope b in
      let cond = expr_alike R x scope a b l in
      let items = bound_alike (found_names x) fs gs all scope u.1 v.1 cond.tables in
      record {
        thing = ap₄ (branch_made line) cond.thing (found_equal x a b l) (fresh_equal R u.1 v.1 (length (found_names x)) cond.tables) items.thing;
        tables = items.tables;
      }

  abbrev alt_made : ℕ → Cond → Option ℕ → List ℕ → List Item → Alt
  alt_made line cond found binds body = roll-Alt (record { cond = cond; found = found; binds = binds; body = body; line = line })

  alt_alike : (line : ℕ) (x : Expr) (fs gs : List Stating) → Beside StatesAlike fs gs → GoesAlike R (as_alt line x fs) (as_alt line x gs)
  alt_alike line x fs gs all scope a b l =
      let u = (meant x).outside scope a in
      let v = (meant x).outside scope b in
      let asked = expr_alike R x scope a b l in
      let items = bound_alike (found_names x) fs gs all scope u.1 v.1 asked.tables in
      let same : (meant x).condition scope ≡ (meant x).condition scope = refl in
      record {
        thing = ap₄ (alt_made line) same (found_equal x a b l) (fresh_equal R u.1 v.1 (length (found_names x)) asked.tables) items.thing;
        tables = items.tables;
      }

  pub record GuardsAlike (x y : Guarded) : Type 0 where
    pub branch : GoesAlike R x.branch y.branch
    pub alt : GoesAlike R x.alt y.alt

  each_alike : {A : Type 0} (fs gs : List (Becomes A)) → Beside (λ f g. GoesAlike R f g) fs gs → GoesAlike R (each fs) (each gs)
  each_alike [] [] all scope a b l = record { thing = refl; tables = l }
  each_alike [] (g ∷ gs) all scope a b l = absurd all
  each_alike (f ∷ fs) [] all scope a b l = absurd all
  each_alike (f ∷ fs) (g ∷ gs) all scope a b l =
      let u = f scope a in
      let v = g scope b in
      let first = all.0 scope a b l in
      made_two R (λ z zs. z ∷ zs) u.0 v.0 (each fs scope u.1) (each gs scope v.1) first.thing (each_alike fs gs all.1 scope u.1 v.1 first.tables)

  branches_alike : (xs ys : List Guarded) → Beside GuardsAlike xs ys → GoesAlike R (each (map (λ b. b.branch) xs)) (each (map (λ b. b.branch) ys))
  branches_alike xs ys all = each_alike (map (λ b. b.branch) xs) (map (λ b. b.branch) ys) (beside_map GuardsAlike (λ f g. GoesAlike R f g) (λ b. b.branch) (λ b. b.branch) (λ x y p. p.branch) xs ys all)

  alts_alike : (xs ys : List Guarded) → Beside GuardsAlike xs ys → GoesAlike R (each (map (λ b. b.alt) xs)) (each (map (λ b. b.alt) ys))
  alts_alike xs ys all = each_alike (map (λ b. b.alt) xs) (map (λ b. b.alt) ys) (beside_map GuardsAlike (λ f g. GoesAlike R f g) (λ b. b.alt) (λ b. b.alt) (λ x y p. p.alt) xs ys all)

  abbrev Others : Option (List Stating) → Option (List Stating) → Type 0
  Others = Both (Beside StatesAlike)

  other_alike : (x y : Option (List Stating)) → Others x y → GoesAlike R (block_if x) (block_if y)
  other_alike None None all scope a b l = record { thing = refl; tables = l }
  other_alike None (Some y) all scope a b l = absurd all
  other_alike (Some x) None all scope a b l = absurd all
  other_alike (Some x) (Some y) all scope a b l = block_alike x y all scope a b l

  timeout_alike : (x y : Option (List Stating)) → Others x y → GoesAlike R (timeout_block x) (timeout_block y)
  timeout_alike None None all scope a b l = record { thing = refl; tables = l }
  timeout_alike None (Some y) all scope a b l = absurd all
  timeout_alike (Some x) None all scope a b l = absurd all
  timeout_alike (Some x) (Some y) all scope a b l = made R (λ z. Some z) (block x scope a) (block y scope b) (block_alike x y all scope a b l)

  ifs_alike : (xs ys : List Guarded) (u v : Option (List Stating)) → Beside GuardsAlike xs ys → Others u v → GoesAlike R (ifs xs u) (ifs ys v)
  ifs_alike xs ys u v all other scope a b l =
      let p = each (map (λ b. b.branch) xs) scope a in
      let q = each (map (λ b. b.branch) ys) scope b in
      let firsts = branches_alike xs ys all scope a b l in
      made_two R it.If p.0 q.0 (block_if u scope p.1) (block_if v scope q.1) firsts.thing (other_alike u v other scope p.1 q.1 firsts.tables)

  loop_alike : (x : Expr) (fs gs : List Stating) → Beside StatesAlike fs gs → GoesAlike R (loop x fs) (loop x gs)
  loop_alike x fs gs all scope a b l =
      let u = (meant x).outside scope a in
      let v = (meant x).outside scope b in
      let cond = expr_alike R x scope a b l in
      made_two R it.While u.0 v.0 (block fs scope u.1) (block gs scope v.1) cond.thing (block_alike fs gs all scope u.1 v.1 cond.tables)

  for_alike : (name : List ℕ) (x : Expr) (fs gs : List Stating) → Beside StatesAlike fs gs → GoesAlike R (for_each name x fs) (for_each name x gs)
  for_alike name x fs gs all scope a b l =
      let u = (meant x).outside scope a in
      let v = (meant x).outside scope b in
      let over = expr_alike R x scope a b l in
      let items = bound_alike (name ∷ []) fs gs all scope u.1 v.1 over.tables in
      let header : it.For (next u.1) u.0 (bound (name ∷ []) fs scope u.1).0 ≡ it.For (next v.1) v.0 (bound (name ∷ []) fs scope u.1).0 = ap₂ (λ n o. it.For n o (bound (name ∷ []) fs scope u.1).0) (next_equal R u.1 v.1 over.tables) over.thing in
      record { thing = header ∙ ap (it.For (next v.1) v.0) items.thing; tables = items.tables }

  await_one_alike : (line : ℕ) (x : Expr) → StatesAlike (await_one line x) (await_one line x)
  await_one_alike line x label scope a b l =
      let alt = alt_alike line x [] [] tt scope a b l in
      record { item = ap (λ z. item_at line (it.Await (z ∷ []) None label)) alt.thing; label = refl; scope = named_equal R (found_names x) a b scope l; tables = alt.tables }

  awaits_alike : (xs ys : List Guarded) (u v : Option (List Stating)) → Beside GuardsAlike xs ys → Others u v → (label : Option ℕ) → GoesAlike R (awaits xs u label) (awaits ys v label)
  awaits_alike xs ys u v all other label scope a b l =
      let p = each (map (λ b. b.alt) xs) scope a in
      let q = each (map (λ b. b.alt) ys) scope b in
      let firsts = alts_alike xs ys all scope a b l in
      made_two R (λ alts late. it.Await alts late label) p.0 q.0 (timeout_block u scope p.1) (timeout_block v scope q.1) firsts.thing (timeout_alike u v other scope p.1 q.1 firsts.tables)

  labels_alike : (line m n : ℕ) → m ≡ n → StatesAlike (labels line m) (labels line n)
  labels_alike line m n same label scope a b l = record { item = ap (λ z. item_at line (it.Label z)) same; label = ap (λ z. Some z) same; scope = refl; tables = l }

  -- two ways to copy methods
  pub record CopiesAlike (f g : Copy) : Type 0 where
    pub call : (name : List ℕ) (args : List RExpr) (a b : Tables) → TablesAlike R a b → ComesAlike R (f.call name args a) (g.call name args b)
    pub number : (name : List ℕ) → f.number name ≡ g.number name

  calling_alike : (f g : Copy) (name : List ℕ) (xs : List Expr) → CopiesAlike f g → GoesAlike R (calling f name xs) (calling g name xs)
  calling_alike f g name xs p scope a b l =
      let args = exprs_alike R xs scope a b l in
      let u = all_outside (map meant xs) scope a in
      let v = all_outside (map meant xs) scope b in
      subst (λ z. ComesAlike R (f.call name u.0 u.1) (g.call name z v.1)) args.thing (p.call name u.0 u.1 v.1 args.tables)

  module _ (f g : Copy) (p : CopiesAlike f g) where
    abbrev OfStmt : Stmt → Type 0
    OfStmt s = StatesAlike (stating f s) (stating g s)

    abbrev OfBranch : Branch → Type 0
    OfBranch s = GuardsAlike (guarding f s) (guarding g s)

    abbrev OfTimeout : TimeoutTree → Type 0
    OfTimeout s = Beside StatesAlike (waiting f s) (waiting g s)

    by : {A : Type 0} (Same : A → A → Type 0) {x y u v : A} → x ≡ u → y ≡ v → Same u v → Same x y
    by Same {x} {y} {u} {v} e h t = subst (λ z. Same z y) (sym e) (subst (λ z. Same u z) (sym h) t)

    body_of_stmts : (ss : List Stmt) → AllByRecursion OfStmt ss → Beside StatesAlike (map (stating f) ss) (map (stating g) ss)
    body_of_stmts ss every = beside_both StatesAlike (stating f) (stating g) ss every

    guards : (bs : List Branch) → AllByRecursion OfBranch bs → Beside GuardsAlike (map (guarding f) bs) (map (guarding g) bs)
    guards bs every = beside_both GuardsAlike (guarding f) (guarding g) bs every

    otherwise : (o : Option (List Stmt)) → Where (AllByRecursion OfStmt) o → Others (option_map (map (stating f)) o) (option_map (map (stating g)) o)
    otherwise None w = tt
    otherwise (Some ss) w = body_of_stmts ss w

    late : (o : Option TimeoutTree) → Where OfTimeout o → Others (option_map (waiting f) o) (option_map (waiting g) o)
    late None w = tt
    late (Some t) w = w

    abbrev cases : StmtCases
    cases = record {
      Of_stmt = OfStmt;
      Of_branch = OfBranch;
      Of_timeout = OfTimeout;
      assign = λ name x line. by StatesAlike (stating-Assign f name x line) (stating-Assign g name x line) (stated line _ _ (with_slot it.Assign name x));
      add = λ name x line. by StatesAlike (stating-Add f name x line) (stating-Add g name x line) (stated line _ _ (with_slot it.Add name x));
      delete = λ name x line. by StatesAlike (stating-Del f name x line) (stating-Del g name x line) (stated line _ _ (with_slot it.Del name x));
      send = λ x to line. by StatesAlike (stating-Send f x to line) (stating-Send g x to line) (stated line _ _ (with_two it.Send x to));
      output = λ x line. by StatesAlike (stating-Output f x line) (stating-Output g x line) (stated line _ _ (with_one it.Output x));
      pass = λ line. by StatesAlike (stating-Pass f line) (stating-Pass g line) (stated line (λ scope tables. (it.Pass, tables)) (λ scope tables. (it.Pass, tables)) (λ scope a b l. record { thing = refl; tables = l }));
      label = λ name line. by StatesAlike (stating-Label f name line) (stating-Label g name line) (labels_alike line (f.number name) (g.number name) (p.number name));
      call = λ name xs line. by StatesAlike (stating-Call f name xs line) (stating-Call g name xs line) (stated line _ _ (calling_alike f g name xs p));
      conditional = λ branches other line bs o. by StatesAlike (stating-If f branches other line) (stating-If g branches other line) (stated line _ _ (ifs_alike _ _ _ _ (guards branches bs) (otherwise other o)));
      loop = λ x body line every. by StatesAlike (stating-While f x body line) (stating-While g x body line) (stated line _ _ (loop_alike x _ _ (body_of_stmts body every)));
      each = λ name x body line every. by StatesAlike (stating-For f name x body line) (stating-For g name x body line) (stated line _ _ (for_alike name x _ _ (body_of_stmts body every)));
      await_one = λ x line. by StatesAlike (stating-AwaitOne f x line) (stating-AwaitOne g x line) (await_one_alike line x);
      await = λ alts over line every w. by StatesAlike (stating-Await f alts over line) (stating-Await g alts over line) (λ label. stated line _ _ (awaits_alike _ _ _ _ (guards alts every) (late over w) label) label);
      branch = λ cond body line every. by GuardsAlike (guarding-of f cond body line) (guarding-of g cond body line) (record { branch = branch_alike line cond (map (stating f) body) (map (stating g) body) (body_of_stmts body every); alt = alt_alike line cond (map (stating f) body) (map (stating g) body) (body_of_stmts body every) });
      timeout = λ body line every. by (Beside StatesAlike) (waiting-of f body line) (waiting-of g body line) (body_of_stmts body every);
    }

    pub stmts_alike : (ss : List Stmt) → GoesAlike R (body_with f ss) (body_with g ss)
    stmts_alike ss = block_alike (map (stating f) ss) (map (stating g) ss) (body_of_stmts ss (all_of OfStmt (stmt_induction cases) ss))

-- The tags in a program are names.
use Rattle.std.specs.Prelude.{◌≡◌, refl, ℕ, Bool, true, false, if◌then◌else◌, List, [], ◌∷◌, ◌++◌, length, map, flat_map, Option, Some, None}
use Rattle.std.specs.List.{AllByRecursion}
use Rattle.std.proofs.Common.{◌∙◌, ap, sym, subst}
use Rattle.da_lang.specs.declared.tree.Branch.{Branch, roll-Branch}
use Rattle.da_lang.specs.declared.tree.ChainTree.{ChainTree}
use Rattle.da_lang.specs.declared.tree.ClassTree.{ClassTree}
use Rattle.da_lang.specs.declared.tree.Expr.{Expr, out-Expr}
use Rattle.da_lang.specs.declared.tree.Expr.TheOpen.{Expr-F}
use Rattle.da_lang.specs.declared.tree.Expr.TheVariants as ex
use Rattle.da_lang.specs.declared.tree.GenTree.{GenTree, roll-GenTree}
use Rattle.da_lang.specs.declared.tree.MainLine.{MainLine}
use Rattle.da_lang.specs.declared.tree.MainLine.TheVariants as main_line
use Rattle.da_lang.specs.declared.tree.Member.{Member}
use Rattle.da_lang.specs.declared.tree.Member.TheVariants as member
use Rattle.da_lang.specs.declared.tree.PatternTree.{PatternTree}
use Rattle.da_lang.specs.declared.tree.PatternTree.TheVariants as pat
use Rattle.da_lang.specs.declared.tree.PeerTree.{PeerTree}
use Rattle.da_lang.specs.declared.tree.PeerTree.TheVariants as peer
use Rattle.da_lang.specs.declared.tree.SourceTree.{SourceTree}
use Rattle.da_lang.specs.declared.tree.SourceTree.TheVariants as source
use Rattle.da_lang.specs.declared.tree.Stmt.{Stmt}
use Rattle.da_lang.specs.declared.tree.Stmt.TheOpen.{Branch-F, TimeoutTree-F}
use Rattle.da_lang.specs.declared.tree.Stmt.TheVariants as stmt
use Rattle.da_lang.specs.declared.tree.Stmt.TheViews.{out-roll-Branch, out-roll-TimeoutTree}
use Rattle.da_lang.specs.declared.tree.TimeoutTree.{TimeoutTree, roll-TimeoutTree}
use Rattle.da_lang.specs.declared.tree.Tree.{Tree}
use Rattle.da_lang.proofs.CondInduction.{Where}
use Rattle.da_lang.proofs.StmtInduction.{StmtCases, stmt_induction}
use Rattle.da_lang.proofs.TreeInduction.{Cases, expr_induction, pattern_induction}
use Rattle.added_names.specs.declared.added.AddedTag.{AddedTag}
use Rattle.added_names.specs.Firsts.{firsts, knows, unless}
use Rattle.added_names.specs.Names.{is_name}
use Rattle.added_names.specs.StmtTags.{send_tags, handler_tags, stmt_tags, branch_tags, timeout_tags, else_tags, late_tags, member_tags, class_tags, main_tags, tree_tags, added_tags}
use Rattle.added_names.specs.Tags.{Tags, tag_at, tag_if, in_history, tags_in, pattern_at, chain_tags, gen_tags, pattern_tag, pattern_tags, guard_tags, sender_tags, peer_if, lead, leads, text_in, sent_lead, sent_leads, sent_in, sent_tag}
use Rattle.added_names.proofs.StmtTagsAt as stmt_at
use Rattle.added_names.proofs.TagsAt as at
use Rattle.da_infer.proofs.KnownLaws.{all_both, all_flat}
use Rattle.da_infer.proofs.TakenExprs.{chain_of, gen_of}

abbrev pub AreNames : Tags → Type 0
AreNames xs = AllByRecursion (λ (x : AddedTag). is_name x.tag ≡ true) xs

-- ---- lists of tags

same_names : (ts us : Tags) → ts ≡ us → AreNames us → AreNames ts
same_names ts us e all = subst AreNames (sym e) all

no_names : (ts : Tags) → ts ≡ [] → AreNames ts
no_names ts e = same_names ts [] e tt

two_names : (xs ys : Tags) → AreNames xs → AreNames ys → AreNames (xs ++ ys)
two_names xs ys p q = all_both (λ (x : AddedTag). is_name x.tag ≡ true) xs ys p q

both_names : (ts xs ys : Tags) → ts ≡ xs ++ ys → AreNames xs → AreNames ys → AreNames ts
both_names ts xs ys e p q = same_names ts (xs ++ ys) e (two_names xs ys p q)

flat_names : {A : Type 0} (f : A → Tags) (xs : List A) → AllByRecursion (λ x. AreNames (f x)) xs → AreNames (flat_map f xs)
flat_names f xs all = all_flat (λ (x : AddedTag). is_name x.tag ≡ true) (λ x. AreNames (f x)) f (λ x h. h) xs all

each_names : {A : Type 0} (f : A → Tags) (xs : List A) (ts : Tags) → ts ≡ flat_map f xs → AllByRecursion (λ x. AreNames (f x)) xs → AreNames ts
each_names f xs ts e all = same_names ts (flat_map f xs) e (flat_names f xs all)

every : {A : Type 0} (P : A → Type 0) → ((x : A) → P x) → (xs : List A) → AllByRecursion P xs
every P each [] = tt
every P each (x ∷ xs) = (each x, every P each xs)

-- ---- single tags

one_name : (b : Bool) (x : AddedTag) → is_name x.tag ≡ b → AreNames (if b then x ∷ [] else [])
one_name true x e = (e, tt)
one_name false x e = tt

tag_names : (line : ℕ) (o : Option (List ℕ)) (parts : ℕ) → AreNames (tag_if line o parts)
unfolding tag_if tag_at
tag_names line None parts = tt
tag_names line (Some text) parts = one_name (is_name text) (record { tag = text; parts = parts; line = line }) refl

history_names : (x : SourceTree) (ts : Tags) → AreNames ts → AreNames (in_history x ts)
unfolding in_history
history_names source.Received ts all = all
history_names source.Sent ts all = all
history_names (source.Name name) ts all = tt

module _ (line : ℕ) where
  lead_names : (ps : List PatternTree) → AreNames (leads line ps)
  unfolding leads
  lead_names [] = tt
  lead_names (p ∷ ps) = tag_names line (pattern_at line p).text (length ps)

  sent_lead_names : (x : Expr) (parts : ℕ) → AreNames (sent_lead line x parts)
  unfolding sent_lead
  sent_lead_names x parts = tag_names line (text_in (out-Expr x)) parts

  sent_leads_names : (xs : List Expr) → AreNames (sent_leads line xs)
  unfolding sent_leads
  sent_leads_names [] = tt
  sent_leads_names (x ∷ xs) = sent_lead_names x (length xs)

  sent_by : (y : Expr-F Expr PatternTree PeerTree ChainTree GenTree) → AreNames (sent_in line y)
  sent_by (Expr-F.«Expr::Tuple» xs) = sent_leads_names xs
  sent_by _ = tt

  sent_names : (x : Expr) → AreNames (sent_tag line x)
  unfolding sent_tag
  sent_names x = sent_by (out-Expr x)

  -- ---- expressions and patterns

  abbrev InExpr : Expr → Type 0
  InExpr x = AreNames (tags_in line x)

  abbrev InPattern : PatternTree → Type 0
  InPattern p = AreNames (pattern_tags line p) × AreNames (pattern_tag line p)

  abbrev InPeer : PeerTree → Type 0
  InPeer p = AreNames (peer_if line (Some p))

  guard_names : (o : Option Expr) → Where InExpr o → AreNames (guard_tags line o)
  guard_names None h = no_names (guard_tags line None) (at.guard-None line)
  guard_names (Some x) h = same_names (guard_tags line (Some x)) (tags_in line x) (at.guard-Some line x) h

  peer_names : (o : Option PeerTree) → Where InPeer o → AreNames (peer_if line o)
  peer_names None h = no_names (peer_if line None) (at.peer-None line)
  peer_names (Some p) h = h

  both_exprs : (f : Expr → Expr → Expr) (x y : Expr) → tags_in line (f x y) ≡ tags_in line x ++ tags_in line y → InExpr x → InExpr y → InExpr (f x y)
  both_exprs f x y e p q = both_names (tags_in line (f x y)) (tags_in line x) (tags_in line y) e p q

  quant_names : (each : Bool) (gs : List GenTree) (o : Option Expr) → AllByRecursion (λ g. AreNames (gen_tags line g)) gs → Where InExpr o → InExpr (ex.Quant each gs o)
  quant_names each gs o p q =
      both_names (tags_in line (ex.Quant each gs o)) (flat_map (gen_tags line) gs) (guard_tags line o) (at.tags-Quant line each gs o) (flat_names (gen_tags line) gs p) (guard_names o q)

  comp_names : (x : Expr) (gs : List GenTree) (o : Option Expr) → InExpr x → AllByRecursion (λ g. AreNames (gen_tags line g)) gs → Where InExpr o → InExpr (ex.Comp x gs o)
  comp_names x gs o h p q =
      both_names (tags_in line (ex.Comp x gs o)) (tags_in line x ++ flat_map (gen_tags line) gs) (guard_tags line o) (at.tags-Comp line x gs o)
      (two_names (tags_in line x) (flat_map (gen_tags line) gs) h (flat_names (gen_tags line) gs p)) (guard_names o q)

  chain_names : (x : Expr) (more : List ChainTree) → InExpr x → AllByRecursion (λ p. AreNames (chain_tags line p)) more → InExpr (ex.Chain x more)
  chain_names x more h p = both_names (tags_in line (ex.Chain x more)) (tags_in line x) (flat_map (chain_tags line) more) (at.tags-Chain line x more) h (flat_names (chain_tags line) more p)

  tuple_names : (ps : List PatternTree) → AllByRecursion InPattern ps → InPattern (pat.Tuple ps)
  tuple_names ps all = (
    each_names (pattern_tags line) ps (pattern_tags line (pat.Tuple ps)) (at.within-Tuple line ps) (firsts_of ps all),
    same_names (pattern_tag line (pat.Tuple ps)) (leads line ps) (at.tag-Tuple line ps) (lead_names ps),
  )
    where
      firsts_of : (qs : List PatternTree) → AllByRecursion InPattern qs → AllByRecursion (λ p. AreNames (pattern_tags line p)) qs
      firsts_of [] h = tt
      firsts_of (q ∷ qs) h = (h.0.0, firsts_of qs h.1)

  gen_names : (p : PatternTree) (o : Option PeerTree) (x : SourceTree) → InPattern p → Where InPeer o → AreNames (gen_tags line (roll-GenTree (record { message = p; peer = o; source = x })))
  gen_names p o x h q =
      both_names (gen_tags line (roll-GenTree (record { message = p; peer = o; source = x }))) (in_history x (pattern_tag line p) ++ pattern_tags line p) (peer_if line o) (gen_of line p o x)
      (two_names (in_history x (pattern_tag line p)) (pattern_tags line p) (history_names x (pattern_tag line p) h.1) h.0) (peer_names o q)

  plain_names : (p : PatternTree) → pattern_tags line p ≡ [] → pattern_tag line p ≡ [] → InPattern p
  plain_names p e i = (no_names (pattern_tags line p) e, no_names (pattern_tag line p) i)

  abbrev cases : Cases
  cases = record {
    Of_expr = InExpr;
    Of_pattern = InPattern;
    Of_peer = InPeer;
    Of_link = λ p. AreNames (chain_tags line p);
    Of_gen = λ g. AreNames (gen_tags line g);
    quant = quant_names;
    either = λ xs all. each_names (tags_in line) xs (tags_in line (ex.Or xs)) (at.tags-Or line xs) all;
    both = λ xs all. each_names (tags_in line) xs (tags_in line (ex.And xs)) (at.tags-And line xs) all;
    negation = λ x h. same_names (tags_in line (ex.Not x)) (tags_in line x) (at.tags-Not line x) h;
    comparison = λ o x y p q. both_exprs (ex.Cmp o) x y (at.tags-Cmp line o x y) p q;
    member = λ x y p q. both_exprs ex.Member x y (at.tags-Member line x y) p q;
    chain = chain_names;
    number = λ n. no_names (tags_in line (ex.Int n)) (at.tags-Int line n);
    text = λ b. no_names (tags_in line (ex.Text b)) (at.tags-Text line b);
    truth = λ b. no_names (tags_in line (ex.Truth b)) (at.tags-Truth line b);
    me = no_names (tags_in line ex.Me) (at.tags-Me line);
    name = λ b. no_names (tags_in line (ex.Name b)) (at.tags-Name line b);
    clock = no_names (tags_in line ex.Clock) (at.tags-Clock line);
    range = λ x y p q. both_exprs ex.Range x y (at.tags-Range line x y) p q;
    tuple = λ xs all. each_names (tags_in line) xs (tags_in line (ex.Tuple xs)) (at.tags-Tuple line xs) all;
    set_of = λ xs all. each_names (tags_in line) xs (tags_in line (ex.SetOf xs)) (at.tags-SetOf line xs) all;
    comprehension = comp_names;
    count = λ x h. same_names (tags_in line (ex.Count x)) (tags_in line x) (at.tags-Count line x) h;
    sum = λ x h. same_names (tags_in line (ex.Sum x)) (tags_in line x) (at.tags-Sum line x) h;
    least = λ x y p q. both_exprs ex.Min x y (at.tags-Min line x y) p q;
    greatest = λ x y p q. both_exprs ex.Max x y (at.tags-Max line x y) p q;
    any = plain_names pat.Wild (at.within-Wild line) (at.tag-Wild line);
    variable = λ b. plain_names (pat.Name b) (at.within-Name line b) (at.tag-Name line b);
    number_pattern = λ n. plain_names (pat.Int n) (at.within-Int line n) (at.tag-Int line n);
    text_pattern = λ b. plain_names (pat.Text b) (at.within-Text line b) (at.tag-Text line b);
    truth_pattern = λ b. plain_names (pat.Truth b) (at.within-Truth line b) (at.tag-Truth line b);
    me_pattern = plain_names pat.Me (at.within-Me line) (at.tag-Me line);
    equal = λ x h. (same_names (pattern_tags line (pat.Equal x)) (tags_in line x) (at.within-Equal line x) h, no_names (pattern_tag line (pat.Equal x)) (at.tag-Equal line x));
    tuple_pattern = tuple_names;
    from = λ p h. same_names (peer_if line (Some (peer.From p))) (pattern_tags line p) (at.peer-From line p) h.0;
    to = λ p h. same_names (peer_if line (Some (peer.To p))) (pattern_tags line p) (at.peer-To line p) h.0;
    link = λ o x h. same_names _ (tags_in line x) (chain_of line o x) h;
    generator = gen_names;
  }

  expr_names : (x : Expr) → AreNames (tags_in line x)
  expr_names x = expr_induction cases x

  pattern_names : (p : PatternTree) → InPattern p
  pattern_names p = pattern_induction cases p

  sender_names : (o : Option PatternTree) → AreNames (sender_tags line o)
  sender_names None = no_names (sender_tags line None) (at.sender-None line)
  sender_names (Some p) = same_names (sender_tags line (Some p)) (pattern_tags line p) (at.sender-Some line p) (pattern_names p).0

  list_names : (xs : List Expr) → AreNames (flat_map (tags_in line) xs)
  list_names xs = flat_names (tags_in line) xs (every (λ x. AreNames (tags_in line x)) expr_names xs)

  send_names : (x to : Expr) → AreNames (send_tags line x to)
  unfolding send_tags
  send_names x to = two_names (sent_tag line x ++ tags_in line x) (tags_in line to) (two_names (sent_tag line x) (tags_in line x) (sent_names x) (expr_names x)) (expr_names to)

  handler_names : (p : PatternTree) (o : Option PatternTree) → AreNames (handler_tags line p o)
  unfolding handler_tags
  handler_names p o = two_names (pattern_tag line p ++ pattern_tags line p) (sender_tags line o) (two_names (pattern_tag line p) (pattern_tags line p) (pattern_names p).1 (pattern_names p).0) (sender_names o)

-- ---- statements

abbrev InStmt : Stmt → Type 0
InStmt s = AreNames (stmt_tags s)

one_expr : (s : Stmt) (x : Expr) (line : ℕ) → stmt_tags s ≡ tags_in line x → InStmt s
one_expr s x line e = same_names (stmt_tags s) (tags_in line x) e (expr_names line x)

body_names : (s : Stmt) (x : Expr) (body : List Stmt) (line : ℕ) → stmt_tags s ≡ tags_in line x ++ flat_map stmt_tags body → AllByRecursion InStmt body → InStmt s
body_names s x body line e all = both_names (stmt_tags s) (tags_in line x) (flat_map stmt_tags body) e (expr_names line x) (flat_names stmt_tags body all)

else_names : (o : Option (List Stmt)) → Where (AllByRecursion InStmt) o → AreNames (else_tags o)
else_names None h = no_names (else_tags None) stmt_at.else-None
else_names (Some body) h = each_names stmt_tags body (else_tags (Some body)) (stmt_at.else-Some body) h

late_names : (o : Option TimeoutTree) → Where (λ t. AreNames (late_tags (Some t))) o → AreNames (late_tags o)
late_names None h = no_names (late_tags None) stmt_at.late-None
late_names (Some t) h = h

pub branch_parts : (x : Expr) (body : List Stmt) (line : ℕ) → branch_tags (roll-Branch (record { cond = x; body = body; line = line })) ≡ tags_in line x ++ flat_map stmt_tags body
branch_parts x body line =
    let b = roll-Branch (record { cond = x; body = body; line = line }) in
    stmt_at.branch_of b ∙ ap (λ (v : Branch-F Stmt Branch TimeoutTree). tags_in v.line v.cond ++ flat_map stmt_tags v.body) (out-roll-Branch (record { cond = x; body = body; line = line }))

pub timeout_parts : (body : List Stmt) (line : ℕ) → late_tags (Some (roll-TimeoutTree (record { body = body; line = line }))) ≡ flat_map stmt_tags body
timeout_parts body line =
    let t = roll-TimeoutTree (record { body = body; line = line }) in
    stmt_at.late_of t ∙ ap (λ (v : TimeoutTree-F Stmt Branch TimeoutTree). flat_map stmt_tags v.body) (out-roll-TimeoutTree (record { body = body; line = line }))

abbrev stmt_cases : StmtCases
stmt_cases = record {
  Of_stmt = InStmt;
  Of_branch = λ b. AreNames (branch_tags b);
  Of_timeout = λ t. AreNames (late_tags (Some t));
  assign = λ n x line. one_expr (stmt.Assign n x line) x line (stmt_at.at-Assign n x line);
  add = λ n x line. one_expr (stmt.Add n x line) x line (stmt_at.at-Add n x line);
  delete = λ n x line. one_expr (stmt.Del n x line) x line (stmt_at.at-Del n x line);
  send = λ x to line. same_names (stmt_tags (stmt.Send x to line)) (send_tags line x to) (stmt_at.at-Send x to line) (send_names line x to);
  output = λ x line. one_expr (stmt.Output x line) x line (stmt_at.at-Output x line);
  pass = λ line. no_names (stmt_tags (stmt.Pass line)) (stmt_at.at-Pass line);
  label = λ n line. no_names (stmt_tags (stmt.Label n line)) (stmt_at.at-Label n line);
  call = λ n xs line. same_names (stmt_tags (stmt.Call n xs line)) (flat_map (tags_in line) xs) (stmt_at.at-Call n xs line) (list_names line xs);
  conditional = λ bs o line p q. both_names (stmt_tags (stmt.If bs o line)) (flat_map branch_tags bs) (else_tags o) (stmt_at.at-If bs o line) (flat_names branch_tags bs p) (else_names o q);
  loop = λ x body line all. body_names (stmt.While x body line) x body line (stmt_at.at-While x body line) all;
  each = λ n x body line all. body_names (stmt.For n x body line) x body line (stmt_at.at-For n x body line) all;
  await_one = λ x line. one_expr (stmt.AwaitOne x line) x line (stmt_at.at-AwaitOne x line);
  await = λ bs o line p q. both_names (stmt_tags (stmt.Await bs o line)) (flat_map branch_tags bs) (late_tags o) (stmt_at.at-Await bs o line) (flat_names branch_tags bs p) (late_names o q);
  branch = λ x body line all. both_names _ (tags_in line x) (flat_map stmt_tags body) (branch_parts x body line) (expr_names line x) (flat_names stmt_tags body all);
  timeout = λ body line all. same_names _ (flat_map stmt_tags body) (timeout_parts body line) (flat_names stmt_tags body all);
}

stmts_names : (body : List Stmt) → AreNames (flat_map stmt_tags body)
stmts_names body = flat_names stmt_tags body (every InStmt (stmt_induction stmt_cases) body)

-- ---- programs

member_names : (x : Member) → AreNames (member_tags x)
unfolding member_tags
member_names (member.Var name ty line) = tt
member_names (member.Setup params body line) = stmts_names body
member_names (member.Run body line) = stmts_names body
member_names (member.Method name params body line) = stmts_names body
member_names (member.Receive message from labels body line) = two_names (handler_tags line message from) (flat_map stmt_tags body) (handler_names line message from) (stmts_names body)

class_names : (c : ClassTree) → AreNames (class_tags c)
unfolding class_tags
class_names c = flat_names member_tags c.members (every (λ x. AreNames (member_tags x)) member_names c.members)

main_names : (x : MainLine) → AreNames (main_tags x)
unfolding main_tags
main_names (main_line.New name class count line) = tt
main_names (main_line.Setup name args line) = list_names line args

tree_names : (t : Tree) → AreNames (tree_tags t)
unfolding tree_tags
tree_names t =
    two_names (flat_map class_tags t.classes) (flat_map main_tags t.main) (flat_names class_tags t.classes (every (λ c. AreNames (class_tags c)) class_names t.classes)) (flat_names main_tags t.main (every (λ x. AreNames (main_tags x)) main_names t.main))

-- what holds of all holds of those that appear first
module _ {A : Type 0} (P : A → Type 0) (name : A → List ℕ) where
  unless_all : (known : Bool) (x : A) → P x → AllByRecursion P (unless known x)
  unless_all true x p = tt
  unless_all false x p = (p, tt)

  pub firsts_all : (known : List (List ℕ)) (xs : List A) → AllByRecursion P xs → AllByRecursion P (firsts name known xs)
  unfolding firsts
  firsts_all known [] all = tt
  firsts_all known (x ∷ xs) all = all_both P (unless (knows known (name x)) x) (firsts name (name x ∷ known) xs) (unless_all (knows known (name x)) x all.0) (firsts_all (name x ∷ known) xs all.1)

pub tags_are_names : (t : Tree) → AreNames (added_tags t)
unfolding added_tags
tags_are_names t = firsts_all (λ (x : AddedTag). is_name x.tag ≡ true) (λ (x : AddedTag). x.tag) (map (λ m. m.tag) t.messages) (tree_tags t) (tree_names t)

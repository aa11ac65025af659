-- The grammar of statements and blocks, each nonterminal a relation. A block opens one thing more; the relation of what
-- stands in it, its statements and its end, is `Body`.
use Rattle.std.specs.Prelude.{ℕ, zero, suc, List, ◌∷◌, Option, Some, None}
use Rattle.da_values.specs.declared.token.Mark.{Mark}
use Rattle.da_values.specs.declared.token.Mark.TheVariants as m
use Rattle.da_values.specs.Marks.{Tok}
use Rattle.da_lang.specs.declared.tree.Branch.{Branch, roll-Branch}
use Rattle.da_lang.specs.declared.tree.Expr.{Expr}
use Rattle.da_lang.specs.declared.tree.Stmt.{Stmt}
use Rattle.da_lang.specs.declared.tree.Stmt.TheVariants as stmt
use Rattle.da_lang.specs.declared.tree.TimeoutTree.{TimeoutTree, roll-TimeoutTree}
use Rattle.da_lang.specs.Spelling.{Spelling, Room, line, At, Opens, Named, Closed, Many, Ended}
use Rattle.da_lang.specs.ExprGrammar.{Deeper, IsExpr, deeper}

module _ (room : Room) (deep : Deeper) (Body : Spelling (List Stmt)) where
  -- block
  pub data IsBlock : List Stmt → List Tok → List Tok → Type 0 where
    block : {b : List Stmt} {t r s q : List Tok} → At m.Newline t r → Opens m.Indent room r s → Body b s q → IsBlock b t q

  -- word expr ":" block
  pub data IsBranch (word : Mark) : Branch → List Tok → List Tok → Type 0 where
    branch : {x : Expr} {b : List Stmt} {t r s q z : List Tok} → At word t r → IsExpr room deep x r s → At m.Colon s q → IsBlock b q z → IsBranch word (roll-Branch (record { cond = x; body = b; line = line t })) t z

  -- [ "else" ":" block ]
  pub data IsElse : Option (List Stmt) → List Tok → List Tok → Type 0 where
    no_else : {t : List Tok} → IsElse None t t
    otherwise : {b : List Stmt} {t r s q : List Tok} → At m.Else t r → At m.Colon r s → IsBlock b s q → IsElse (Some b) t q

  -- [ "timeout" ":" block ]
  pub data IsTimeout : Option TimeoutTree → List Tok → List Tok → Type 0 where
    no_timeout : {t : List Tok} → IsTimeout None t t
    timeout : {b : List Stmt} {t r s q : List Tok} → At m.Timeout t r → At m.Colon r s → IsBlock b s q → IsTimeout (Some (roll-TimeoutTree (record { body = b; line = line t }))) t q

  -- stmt
  pub data IsStmt : Stmt → List Tok → List Tok → Type 0 where
    assign : {b : List ℕ} {x : Expr} {t r s q z : List Tok} → Named b t r → At m.Assign r s → IsExpr room deep x s q → At m.Newline q z → IsStmt (stmt.Assign b x (line t)) t z
    add : {n : List ℕ} {x : Expr} {t r s q z a b c : List Tok} → Named n t r → At m.Dot r s → At m.Add s q → Opens m.OpenParen room q z → deep.expr x z a → At m.CloseParen a b → At m.Newline b c → IsStmt (stmt.Add n x (line t)) t c
    remove : {n : List ℕ} {x : Expr} {t r s q z a b c : List Tok} → Named n t r → At m.Dot r s → At m.Del s q → Opens m.OpenParen room q z → deep.expr x z a → At m.CloseParen a b → At m.Newline b c → IsStmt (stmt.Del n x (line t)) t c
    send : {x y : Expr} {t r s q z a : List Tok} → At m.Send t r → IsExpr room deep x r s → At m.To s q → IsExpr room deep y q z → At m.Newline z a → IsStmt (stmt.Send x y (line t)) t a
    output : {x : Expr} {t r s q z a : List Tok} → At m.Output t r → Opens m.OpenParen room r s → deep.expr x s q → At m.CloseParen q z → At m.Newline z a → IsStmt (stmt.Output x (line t)) t a
    pass : {t r s : List Tok} → At m.Pass t r → At m.Newline r s → IsStmt (stmt.Pass (line t)) t s
    label : {n : List ℕ} {t r s q : List Tok} → At m.Dashes t r → Named n r s → At m.Newline s q → IsStmt (stmt.Label n (line t)) t q
    call : {n : List ℕ} {xs : List Expr} {t r s q z : List Tok} → Named n t r → Opens m.OpenParen room r s → Closed m.CloseParen deep.disj xs s q → At m.Newline q z → IsStmt (stmt.Call n xs (line t)) t z
    conditional : {b : Branch} {bs : List Branch} {o : Option (List Stmt)} {t r s q : List Tok} → IsBranch m.If b t r → Many (IsBranch m.Elif) bs r s → IsElse o s q → IsStmt (stmt.If (b ∷ bs) o (line t)) t q
    while : {x : Expr} {b : List Stmt} {t r s q z : List Tok} → At m.While t r → IsExpr room deep x r s → At m.Colon s q → IsBlock b q z → IsStmt (stmt.While x b (line t)) t z
    for : {n : List ℕ} {x : Expr} {b : List Stmt} {t r s q z a c : List Tok} → At m.For t r → Named n r s → At m.In s q → IsExpr room deep x q z → At m.Colon z a → IsBlock b a c → IsStmt (stmt.For n x b (line t)) t c
    await_one : {x : Expr} {t r s q : List Tok} → At m.Await t r → IsExpr room deep x r s → At m.Newline s q → IsStmt (stmt.AwaitOne x (line t)) t q
    await : {b : Branch} {bs : List Branch} {o : Option TimeoutTree} {t r s q : List Tok} → IsBranch m.Await b t r → Many (IsBranch m.Or) bs r s → IsTimeout o s q → IsStmt (stmt.Await (b ∷ bs) o (line t)) t q

-- the statements of a block where d things are open, and its end; the first number bounds how many more there are
unfoldable pub BodyIn : (ℕ → Room) → ℕ → ℕ → Spelling (List Stmt)
BodyIn room zero d b t r = ⊥
BodyIn room (suc f) d b t r = Ended (IsStmt (room d) (deeper room f (suc d)) (BodyIn room f (suc d))) b t r

-- The grammar of programs, and which tokens spell a tree.
use Rattle.std.specs.Prelude.{ℕ, suc, ◌<◌, List, [], ◌∷◌, Option, Some, None}
use Rattle.std.specs.List.{All}
use Rattle.da_values.specs.declared.token.Mark.TheVariants as m
use Rattle.da_values.specs.Marks.{Tok}
use Rattle.da_lang.specs.declared.tree.ClassTree.{ClassTree}
use Rattle.da_lang.specs.declared.tree.Expr.{Expr}
use Rattle.da_lang.specs.declared.tree.MainLine.{MainLine}
use Rattle.da_lang.specs.declared.tree.MainLine.TheVariants as main_line
use Rattle.da_lang.specs.declared.tree.Member.{Member}
use Rattle.da_lang.specs.declared.tree.Member.TheVariants as member
use Rattle.da_lang.specs.declared.tree.MessageDecl.{MessageDecl}
use Rattle.da_lang.specs.declared.tree.Param.{Param}
use Rattle.da_lang.specs.declared.tree.PatternTree.{PatternTree}
use Rattle.da_lang.specs.declared.tree.Stmt.{Stmt}
use Rattle.da_lang.specs.declared.tree.Tree.{Tree}
use Rattle.da_lang.specs.declared.ty.ChannelKind.{ChannelKind}
use Rattle.da_lang.specs.declared.ty.ChannelKind.TheVariants as kind
use Rattle.da_lang.specs.declared.ty.Ty.{Ty}
use Rattle.da_lang.specs.Spelling.{Spelling, Room, IsSpelled, line, At, Opens, Named, Number, Separated, Closed, EachAfter, Ended}
use Rattle.da_lang.specs.TypeGrammar.{TypeIn}
use Rattle.da_lang.specs.ExprGrammar.{Deeper, IsPattern, deeper}
use Rattle.da_lang.specs.StmtGrammar.{IsBlock, BodyIn}

-- NAME ":" type
pub data IsParam (Type_ : Spelling Ty) : Param → List Tok → List Tok → Type 0 where
  param : {n : List ℕ} {x : Ty} {t r s q : List Tok} → Named n t r → At m.Colon r s → Type_ x s q → IsParam Type_ (record { name = n; ty = x }) t q

-- [ "from" pattern ]
pub data IsFrom (Pattern : Spelling PatternTree) : Option PatternTree → List Tok → List Tok → Type 0 where
  no_from : {t : List Tok} → IsFrom Pattern None t t
  from : {p : PatternTree} {t r s : List Tok} → At m.From t r → Pattern p r s → IsFrom Pattern (Some p) t s

-- [ "at" NAME { "," NAME } ]
pub data IsAt : List (List ℕ) → List Tok → List Tok → Type 0 where
  no_at : {t : List Tok} → IsAt [] t t
  labels : {ns : List (List ℕ)} {t r s : List Tok} → At m.At t r → Separated m.Comma Named ns r s → IsAt ns t s

-- member, where Type_ spells the types, Params the parameters after "(", and Block the blocks
module _ (room : Room) (Type_ : Spelling Ty) (Params : Spelling (List Param)) (Pattern : Spelling PatternTree) (Block : Spelling (List Stmt)) where
  pub data IsMember : Member → List Tok → List Tok → Type 0 where
    var : {n : List ℕ} {x : Ty} {t r s q z a : List Tok} → At m.Var t r → Named n r s → At m.Colon s q → Type_ x q z → At m.Newline z a → IsMember (member.Var n x (line t)) t a
    setup : {ps : List Param} {b : List Stmt} {t r s q z a c : List Tok} → At m.Def t r → At m.Setup r s → Opens m.OpenParen room s q → Params ps q z → At m.Colon z a → Block b a c → IsMember (member.Setup ps b (line t)) t c
    run : {b : List Stmt} {t r s q z a c : List Tok} → At m.Def t r → At m.Run r s → Opens m.OpenParen room s q → At m.CloseParen q z → At m.Colon z a → Block b a c → IsMember (member.Run b (line t)) t c
    method : {n : List ℕ} {ps : List Param} {b : List Stmt} {t r s q z a c : List Tok} → At m.Def t r → Named n r s → Opens m.OpenParen room s q → Params ps q z → At m.Colon z a → Block b a c → IsMember (member.Method n ps b (line t)) t c
    receive : {p : PatternTree} {o : Option PatternTree} {ns : List (List ℕ)} {b : List Stmt} {t r s q z a c : List Tok} → At m.Receive t r → Pattern p r s → IsFrom Pattern o s q → IsAt ns q z → At m.Colon z a → Block b a c → IsMember (member.Receive p o ns b (line t)) t c

-- [ "," INT ]
pub data IsCount : Option ℕ → List Tok → List Tok → Type 0 where
  no_count : {t : List Tok} → IsCount None t t
  count : {n : ℕ} {t r s : List Tok} → At m.Comma t r → Number n r s → IsCount (Some n) t s

-- mline
pub data IsMline (room : Room) (deep : Deeper) : MainLine → List Tok → List Tok → Type 0 where
  new : {n c : List ℕ} {o : Option ℕ} {t r s q z a b d e : List Tok} → Named n t r → At m.Assign r s → At m.New s q → Opens m.OpenParen room q z → Named c z a → IsCount o a b → At m.CloseParen b d → At m.Newline d e
      → IsMline room deep (main_line.New n c o (line t)) t e
  setup : {n : List ℕ} {xs : List Expr} {t r s q z a b : List Tok} → At m.Setup t r → Opens m.OpenParen room r s → Named n s q → EachAfter m.Comma deep.disj xs q z → At m.CloseParen z a → At m.Newline a b
      → IsMline room deep (main_line.Setup n xs (line t)) t b

-- [ "channel" ("fifo" | "unordered") ("reliable" | "unreliable") NL ]
pub data IsKind : ChannelKind → List Tok → List Tok → Type 0 where
  no_kind : {t : List Tok} → IsKind kind.UnorderedUnreliable t t
  fifo_reliable : {t r s q z : List Tok} → At m.Channel t r → At m.Fifo r s → At m.Reliable s q → At m.Newline q z → IsKind kind.FifoReliable t z
  unordered_reliable : {t r s q z : List Tok} → At m.Channel t r → At m.Unordered r s → At m.Reliable s q → At m.Newline q z → IsKind kind.UnorderedReliable t z
  fifo_unreliable : {t r s q z : List Tok} → At m.Channel t r → At m.Fifo r s → At m.Unreliable s q → At m.Newline q z → IsKind kind.FifoUnreliable t z
  unordered_unreliable : {t r s q z : List Tok} → At m.Channel t r → At m.Unordered r s → At m.Unreliable s q → At m.Newline q z → IsKind kind.UnorderedUnreliable t z

-- what says whether a token may open one thing more, by how many are open; and how many there are at most
module _ (room : ℕ → Room) (f : ℕ) where
  -- "(" [ types ] ")" after its "("
  abbrev pub IsTypes : Spelling (List Ty)
  IsTypes = Closed m.CloseParen (TypeIn room f 1)

  -- message
  pub data IsMessage : MessageDecl → List Tok → List Tok → Type 0 where
    message : {n : List ℕ} {xs : List Ty} {t r s q z a : List Tok} → At m.Message t r → Named n r s → Opens m.OpenParen (room 0) s q → IsTypes xs q z → At m.Newline z a → IsMessage (record { tag = n; parts = xs; line = line t }) t a

  -- main
  pub data IsMain : List MainLine → List Tok → List Tok → Type 0 where
    main : {ls : List MainLine} {t r s q z a b c d : List Tok} → At m.Def t r → At m.Main r s → Opens m.OpenParen (room 0) s q → At m.CloseParen q z → At m.Colon z a → At m.Newline a b → Opens m.Indent (room 0) b c
        → Ended (IsMline (room 1) (deeper room f 2)) ls c d → IsMain ls t d

  -- a parameter with its type, after the "(" of a member
  abbrev pub TypedParam : Spelling Param
  TypedParam = IsParam (TypeIn room f 2)

-- "(" [ params ] ")" after its "(", where Parameter spells a parameter
abbrev pub IsParams : Spelling Param → Spelling (List Param)
IsParams Parameter = Closed m.CloseParen Parameter

-- the same, and what spells a parameter
module _ (room : ℕ → Room) (f : ℕ) (Parameter : Spelling Param) where
  -- class
  pub data IsClass : ClassTree → List Tok → List Tok → Type 0 where
    class : {n : List ℕ} {ms : List Member} {t r s q z a b c d : List Tok} → At m.Class t r → Named n r s → At m.Extends s q → At m.Process q z → At m.Colon z a → At m.Newline a b → Opens m.Indent (room 0) b c
        → Ended (IsMember (room 1) (TypeIn room f 1) (IsParams Parameter) (IsPattern (room 1) (deeper room f 2)) (IsBlock (room 1) (deeper room f 2) (BodyIn room f 2))) ms c d
        → IsClass (record { name = n; members = ms; line = line t }) t d

  -- { message | class }
  pub data IsDecls : List MessageDecl → List ClassTree → List Tok → List Tok → Type 0 where
    no_decl : {t : List Tok} → IsDecls [] [] t t
    message : {x : MessageDecl} {xs : List MessageDecl} {cs : List ClassTree} {t r s : List Tok} → IsMessage room f x t r → IsDecls xs cs r s → IsDecls (x ∷ xs) cs t s
    class : {c : ClassTree} {xs : List MessageDecl} {cs : List ClassTree} {t r s : List Tok} → IsClass c t r → IsDecls xs cs r s → IsDecls xs (c ∷ cs) t s

  -- program
  pub data IsProgram : Tree → List Tok → Type 0 where
    program : {k : ChannelKind} {xs : List MessageDecl} {cs : List ClassTree} {ls : List MainLine} {t r s : List Tok} → IsKind k t r → IsDecls xs cs r s → IsMain room f ls s [] → IsProgram (record { kind = k; messages = xs; classes = cs; main = ls }) t

-- a program in which each parameter has its type
abbrev pub IsTypedProgram : (ℕ → Room) → ℕ → Tree → List Tok → Type 0
IsTypedProgram room f = IsProgram room f (TypedParam room f)

-- each token is spelled as its mark says, and together they spell the tree
unfoldable pub Spells : Tree → List Tok → Type 0
Spells tree tokens = All IsSpelled tokens × ((f : ℕ) × IsTypedProgram (λ d t. Unit {0}) f tree tokens)

-- the same, and none of them opens more than so many things at once
unfoldable pub SpellsWithin : ℕ → Tree → List Tok → Type 0
SpellsWithin most tree tokens = All IsSpelled tokens × IsTypedProgram (λ d t. d < most) (suc most) tree tokens

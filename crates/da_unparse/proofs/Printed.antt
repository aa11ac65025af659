-- The lines of a tree that some tokens spell are printable.
use Rattle.std.proofs.Common.{ℕ, ◌+◌, List, [], ◌∷◌, ◌++◌, refl, sym, subst, arith, append_assoc, append-nil}
use Rattle.std.specs.List.{flat_map}
use Rattle.da_values.specs.Marks.{Tok}
use Rattle.da_lang.specs.declared.tree.ClassTree.{ClassTree}
use Rattle.da_lang.specs.declared.tree.MessageDecl.{MessageDecl}
use Rattle.da_lang.specs.declared.tree.Tree.{Tree}
use Rattle.da_lang.specs.Spelling.{Room}
use Rattle.da_lang.specs.ExprGrammar.{deeper}
use Rattle.da_lang.specs.Grammar.{IsMline, IsKind, IsDecls, IsMain, TypedParam, IsProgram, IsTypedProgram, Spells}
use Rattle.da_unparse.specs.Lines.{Line}
use Rattle.da_unparse.specs.Pieces.{Piece}
use Rattle.da_unparse.specs.Printable.{Follow, ArePrintable}
use Rattle.da_unparse.specs.Programs.{message_lines, class_lines, main_line_lines, main_lines, kind_lines, tree_lines}
use Rattle.da_unparse.specs.Statements.{line}
use Rattle.da_unparse.proofs.PrintedParts.{solid, operand, loose, Part, none, part, join, next, as_solid, before_part}
use Rattle.da_unparse.proofs.PrintedSteps.{Spelt, Shows, past, past_open, EachHas, parens}
use Rattle.da_unparse.proofs.PrintedExprs.{deeper_shows}
use Rattle.da_unparse.proofs.PrintedLines.{Starts, Follow-more, line_starts, then_go, each_deeper}
use Rattle.da_unparse.proofs.PrintedMembers.{MainLineStarts, mline_shows, message_shows, class_shows}
use Rattle.da_unparse.proofs.PrintedStmts.{ended_show}
use Rattle.da_unparse.proofs.PrintedWords.{makes-Colon, makes-Channel, makes-Fifo, makes-Unordered, makes-Reliable, makes-Unreliable, makes-Def, makes-Main}

-- lines of the outermost level, before others of it
record Outermost (ls : List Line) : Type 0 where
  go : (rest : List Line) → Follow 0 rest → Follow 0 (ls ++ rest)

starts_outermost : {ls : List Line} → Starts 0 ls → Outermost ls
starts_outermost s = record { go = λ rest f. s.go 0 rest (omega arith) (Follow-more 0 (0 + 1) rest (omega arith) f) }

none_outermost : Outermost []
none_outermost = record { go = λ rest f. f }

both_outermost : {ls ks : List Line} → Outermost ls → Outermost ks → Outermost (ls ++ ks)
both_outermost {ls} {ks} a b = record { go = λ rest f. subst (Follow 0) (sym (append_assoc ls ks rest)) (a.go (ks ++ rest) (b.go rest f)) }

each_outermost : {A : Type 0} (lines : A → List Line) (xs : List A) → EachHas (λ x. Starts 0 (lines x)) xs → Outermost (flat_map lines xs)
each_outermost lines [] each = none_outermost
each_outermost lines (x ∷ xs) each = both_outermost (starts_outermost each.0) (each_outermost lines xs each.1)

-- ---- the parts of a program

-- the line of the kind of channels
kind_line : {first second third : List Piece} → Part operand loose first → Part operand loose second → Part solid solid third → Outermost (line (first ++ second ++ third) 0)
kind_line a b c = starts_outermost (line_starts 0 (next (next (as_solid a) (as_solid b)) c))

kind_shows : Shows IsKind (λ k. Outermost (kind_lines k 0))
kind_shows _ i r IsKind.no_kind s = (none_outermost, s)
kind_shows _ i r (IsKind.fifo_reliable h a b e) s =
    (kind_line (before_part makes-Channel refl refl refl) (before_part makes-Fifo refl refl refl) (part solid solid makes-Reliable refl refl refl refl), past e (past b (past a (past h s))))
kind_shows _ i r (IsKind.unordered_reliable h a b e) s =
    (kind_line (before_part makes-Channel refl refl refl) (before_part makes-Unordered refl refl refl) (part solid solid makes-Reliable refl refl refl refl), past e (past b (past a (past h s))))
kind_shows _ i r (IsKind.fifo_unreliable h a b e) s =
    (kind_line (before_part makes-Channel refl refl refl) (before_part makes-Fifo refl refl refl) (part solid solid makes-Unreliable refl refl refl refl), past e (past b (past a (past h s))))
kind_shows _ i r (IsKind.unordered_unreliable h a b e) s = (none_outermost, past e (past b (past a (past h s))))

module _ (room : ℕ → Room) (f : ℕ) where
  decls_show : (xs : List MessageDecl) (cs : List ClassTree) (i r : List Tok) → IsDecls room f (TypedParam room f) xs cs i r → Spelt i
      → EachHas (λ x. Starts 0 (message_lines x 0)) xs × EachHas (λ c. Starts 0 (class_lines c 0)) cs × Spelt r
  decls_show _ _ i r IsDecls.no_decl s = (tt, tt, s)
  decls_show _ _ i r (IsDecls.message a l) s =
      let (first, t) = message_shows room f _ _ _ a s in
      let (messages, classes, u) = decls_show _ _ _ _ l t in
      ((first 0, messages), classes, u)
  decls_show _ _ i r (IsDecls.class a l) s =
      let (first, t) = class_shows room f _ _ _ a s in
      let (messages, classes, u) = decls_show _ _ _ _ l t in
      (messages, (first 0, classes), u)

  main_shows : Shows (IsMain room f) (λ ls. Starts 0 (main_lines ls 0))
  main_shows _ i r (IsMain.main {ls} h k o c e n b l) s =
      let (each, t) = ended_show (IsMline (room 1) (deeper room f 2)) MainLineStarts (mline_shows (room 1) (deeper room f 2) (deeper_shows room f 2)) ls _ _ l (past_open b (past n (past e (past c (past_open o (past k (past h s))))))) in
      let header = join (next (as_solid (before_part makes-Def refl refl refl)) (join (part solid solid makes-Main refl refl refl refl) (parens loose refl none))) (part loose solid makes-Colon refl refl refl refl) in
      (then_go 0 (line_starts 0 header) (each_deeper main_line_lines ls each 0), t)

  program_shows : (x : Tree) (i : List Tok) → IsTypedProgram room f x i → Spelt i → Outermost (tree_lines x)
  unfolding tree_lines
  program_shows _ i (IsProgram.program {k} {xs} {cs} {ls} a b c) s =
      let (kind_is, t) = kind_shows k _ _ a s in
      let (messages, classes, u) = decls_show xs cs _ _ b t in
      let (main_is, v) = main_shows ls _ _ c u in
      both_outermost (both_outermost (both_outermost kind_is (each_outermost (λ x. message_lines x 0) xs messages)) (each_outermost (λ c. class_lines c 0) cs classes)) (starts_outermost main_is)

-- what is printed of a tree that some tokens spell is printable
pub printable : (t : Tree) (i : List Tok) → Spells t i → ArePrintable (tree_lines t)
unfolding Spells
printable t i h = let (f, spelled) = h.1 in subst (Follow 0) (append-nil (tree_lines t)) ((program_shows (λ d u. Unit {0}) f t i spelled h.0).go [] tt)

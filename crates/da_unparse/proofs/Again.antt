-- The printed tokens of a program spell it again, but for the numbers of lines, and with no more nesting.
use Rattle.std.proofs.Common.{◌≡◌, ℕ, suc, ◌+◌, ◌<◌, List, [], ◌∷◌, ◌++◌, map, refl, sym, subst, arith, append_assoc, append-nil}
use Rattle.std.specs.Prelude.{codes}
use Rattle.da_values.specs.declared.token.Mark.TheVariants as m
use Rattle.da_values.specs.Marks.{Tok}
use Rattle.da_lang.specs.declared.tree.ClassTree.{ClassTree}
use Rattle.da_lang.specs.declared.tree.MainLine.{MainLine}
use Rattle.da_lang.specs.declared.tree.MainLine.TheVariants as main_line
use Rattle.da_lang.specs.declared.tree.MessageDecl.{MessageDecl}
use Rattle.da_lang.specs.declared.tree.Tree.{Tree}
use Rattle.da_lang.specs.declared.ty.ChannelKind.{ChannelKind}
use Rattle.da_lang.specs.declared.ty.ChannelKind.TheVariants as kind
use Rattle.da_lang.specs.Grammar as gr
use Rattle.da_lang.specs.Grammar.{IsCount, IsMline, IsKind, IsMessage, IsMain, TypedParam, IsClass, IsDecls, IsProgram, IsTypedProgram}
use Rattle.da_lang.specs.Spelling as g
use Rattle.da_lang.specs.Spelling.{Spelling, Opens, EachAfter}
use Rattle.da_lang.specs.ExprGrammar.{deeper}
use Rattle.da_unparse.specs.Expressions.{either}
use Rattle.da_unparse.specs.Lines.{Line, lines_toks}
use Rattle.da_unparse.specs.Pieces.{Piece, token, name, comma, colon, between, before, each_after, in_parens}
use Rattle.da_unparse.specs.Programs.{count, main_line_lines, main_lines, kind_lines, message_lines, class_lines, tree_lines}
use Rattle.da_unparse.specs.Statements.{line}
use Rattle.da_unparse.specs.Unlined.{unlined_main_line, unlined_message, unlined_class, unlined}
use Rattle.da_unparse.proofs.AgainExprs.{below-again, operands, room-of}
use Rattle.da_unparse.proofs.AgainLines.{Begins, Low, low-begins, line-toks, Reprints, all_lines, ended-again}
use Rattle.da_unparse.proofs.AgainMembers.{class-again, message-again}
use Rattle.da_unparse.proofs.AgainPlaces.{operand}
use Rattle.da_unparse.proofs.AgainTools.{put, tok_of, putting, put-named_args, put-new, Again, number-again, behind-again}
use Rattle.da_unparse.proofs.AgainTypes.{opens-again}

count-again : (n : ℕ) → Again n IsCount IsCount count
count-again n _ i r gr.IsCount.no_count s = simp putting gr.IsCount.no_count
count-again n _ i r (gr.IsCount.count h a) s = simp putting (gr.IsCount.count (g.At.at refl) (number-again n a s))

-- ---- the line of the kind of channels

kind-line : (n : ℕ) (ps : List Piece) (k : ChannelKind) (rest : List Line) → kind_lines k 0 ≡ line ps 0
    → IsKind k (put n ps (tok_of n m.Newline [] ∷ lines_toks (n + 1) 0 rest)) (lines_toks (n + 1) 0 rest) → (next : ℕ) × IsKind k (lines_toks n 0 (kind_lines k 0 ++ rest)) (lines_toks next 0 rest)
kind-line n ps k rest e h = (n + 1, rw (e, line-toks n 0 ps rest) h)

kind-again : (k : ChannelKind) (i r : List Tok) → IsKind k i r → (n : ℕ) (rest : List Line) → (next : ℕ) × IsKind k (lines_toks n 0 (kind_lines k 0 ++ rest)) (lines_toks next 0 rest)
kind-again _ i r gr.IsKind.no_kind n rest = (n, gr.IsKind.no_kind)
kind-again _ i r (gr.IsKind.unordered_unreliable h a b z) n rest = (n, gr.IsKind.no_kind)
kind-again _ i r (gr.IsKind.fifo_reliable h a b z) n rest = kind-line n _ kind.FifoReliable rest refl (simp putting (gr.IsKind.fifo_reliable (g.At.at refl) (g.At.at refl) (g.At.at refl) (g.At.at refl)))
kind-again _ i r (gr.IsKind.unordered_reliable h a b z) n rest = kind-line n _ kind.UnorderedReliable rest refl (simp putting (gr.IsKind.unordered_reliable (g.At.at refl) (g.At.at refl) (g.At.at refl) (g.At.at refl)))
kind-again _ i r (gr.IsKind.fifo_unreliable h a b z) n rest = kind-line n _ kind.FifoUnreliable rest refl (simp putting (gr.IsKind.fifo_unreliable (g.At.at refl) (g.At.at refl) (g.At.at refl) (g.At.at refl)))

main_line-begins : (l : MainLine) (level : ℕ) → Begins level (main_line_lines l level)
main_line-begins (main_line.New w c many at) level = record { first = _; others = _; is = refl }
main_line-begins (main_line.Setup w xs at) level = record { first = _; others = _; is = refl }

low-all : {A : Type 0} (lines : A → ℕ → List Line) → ((x : A) (level : ℕ) → Begins level (lines x level)) → (xs : List A) (rest : List Line) → Low 0 rest → Low 0 (all_lines lines xs 0 ++ rest)
low-all lines begins [] rest low = low
low-all lines begins (x ∷ xs) rest low = rw (append_assoc (lines x 0) (all_lines lines xs 0) rest) (low-begins (all_lines lines xs 0 ++ rest) (begins x 0))

module _ (R : ℕ → Type 0) (down : (d : ℕ) → R (suc d) → R d) (f : ℕ) where
  abbrev Mline_ : Spelling MainLine
  Mline_ = IsMline (λ t. R 1) (deeper (λ d t. R d) f 2)

  -- ---- main

  mline-again : Reprints Mline_ Mline_ main_line_lines unlined_main_line
  mline-again _ i r (gr.IsMline.new {o} (g.Named.named {t = w} h) e k op (g.Named.named {t = c} a) l b z) n level rest low = record {
    now = main_line.New w.text c.text o n;
    next = n + 1;
    same = refl;
    spelled = rw (line-toks n level (name w.text ++ between m.Assign (codes "=") ++ token m.New (codes "new") ∷ in_parens (name c.text ++ count o)) rest, put-new n w.text c.text (count o) (tok_of n m.Newline [] ∷ lines_toks (n + 1) level rest))
        (gr.IsMline.new (g.Named.named refl) (g.At.at refl) (g.At.at refl) (opens-again op _ _ refl) (g.Named.named refl) (count-again n o _ _ l _) (g.At.at refl) (g.At.at refl));
  }
  mline-again _ i r (gr.IsMline.setup {xs} {t} h op (g.Named.named {t = w} a) l b z) n level rest low = record {
    now = main_line.Setup w.text xs n;
    next = n + 1;
    same = refl;
    spelled = rw (operands either xs, line-toks n level (token m.Setup (codes "setup") ∷ in_parens (name w.text ++ each_after comma (map (operand either) xs))) rest, put-named_args n m.Setup (codes "setup") w.text (each_after comma (map (operand either) xs)) (tok_of n m.Newline [] ∷ lines_toks (n + 1) level rest))
        (gr.IsMline.setup (g.At.at refl) (opens-again op _ _ refl) (g.Named.named refl) (behind-again n (operand either) (below-again R down n f 1).disj m.Comma comma (λ s. simp putting (g.At.at refl)) xs _ _ l _) (g.At.at refl) (g.At.at refl));
  }

  main-again : Reprints (IsMain (λ d t. R d) f) (IsMain (λ d t. R d) f) main_lines (map unlined_main_line)
  main-again _ i r (gr.IsMain.main {ls} h k op e c z o l) n level rest low =
      let inside = ended-again main_line_lines unlined_main_line mline-again (λ x i r h. main_line-begins x) ls _ _ l (n + 1) level rest low in
      record {
        now = inside.now;
        next = inside.next;
        same = inside.same;
        spelled = rw (line-toks n level (before m.Def (codes "def") ++ token m.Main (codes "main") ∷ in_parens [] ++ colon) (all_lines main_line_lines ls (level + 1) ++ rest))
            (simp putting (gr.IsMain.main (g.At.at refl) (g.At.at refl) (opens-again op _ _ refl) (g.At.at refl) (g.At.at refl) (g.At.at refl) (g.Opens.opens (room-of o) inside.spelled.1) inside.spelled.2));
      }

  -- ---- declarations: first all messages, then all classes

  class-begins : (c : ClassTree) (level : ℕ) → Begins level (class_lines c level)
  class-begins c level = record { first = _; others = _; is = refl }

  message-begins : (x : MessageDecl) (level : ℕ) → Begins level (message_lines x level)
  message-begins x level = record { first = _; others = _; is = refl }

  classes-again : (xs : List MessageDecl) (cs : List ClassTree) (i r : List Tok) → IsDecls (λ d t. R d) f (TypedParam (λ d t. R d) f) xs cs i r → (n : ℕ) (rest : List Line) → Low 0 rest
      → (now : List ClassTree) × (next : ℕ) × (map unlined_class now ≡ map unlined_class cs) × IsDecls (λ d t. R d) f (TypedParam (λ d t. R d) f) [] now (lines_toks n 0 (all_lines class_lines cs 0 ++ rest)) (lines_toks next 0 rest)
  classes-again _ _ i r gr.IsDecls.no_decl n rest low = ([], n, refl, gr.IsDecls.no_decl)
  classes-again _ _ i r (gr.IsDecls.message {xs} {cs} h l) n rest low = classes-again xs cs _ _ l n rest low
  classes-again _ _ i r (gr.IsDecls.class {c} {xs} {cs} h l) n rest low =
      let one = class-again R down f c _ _ h n 0 (all_lines class_lines cs 0 ++ rest) (low-all class_lines class-begins cs rest low) in
      let (now, next, same, spelled) = classes-again xs cs _ _ l one.next rest low in
      (one.now ∷ now, next, cc (one.same, same), subst (λ z. IsDecls (λ d t. R d) f (TypedParam (λ d t. R d) f) [] (one.now ∷ now) (lines_toks n 0 z) (lines_toks next 0 rest)) (sym (append_assoc (class_lines c 0) (all_lines class_lines cs 0) rest)) (gr.IsDecls.class one.spelled spelled))

  messages-again : (xs : List MessageDecl) (cs : List ClassTree) (i r : List Tok) → IsDecls (λ d t. R d) f (TypedParam (λ d t. R d) f) xs cs i r → (n : ℕ) (rest : List Line) → Low 0 rest
      → (now : List MessageDecl) × (next : ℕ) × (map unlined_message now ≡ map unlined_message xs)
      × ((cs : List ClassTree) (z : List Tok) → IsDecls (λ d t. R d) f (TypedParam (λ d t. R d) f) [] cs (lines_toks next 0 rest) z → IsDecls (λ d t. R d) f (TypedParam (λ d t. R d) f) now cs (lines_toks n 0 (all_lines message_lines xs 0 ++ rest)) z)
  messages-again _ _ i r gr.IsDecls.no_decl n rest low = ([], n, refl, λ cs z h. h)
  messages-again _ _ i r (gr.IsDecls.message {x} {xs} {cs} h l) n rest low =
      let one = message-again R down f x _ _ h n 0 (all_lines message_lines xs 0 ++ rest) (low-all message_lines message-begins xs rest low) in
      let (now, next, same, spelled) = messages-again xs cs _ _ l one.next rest low in
      (one.now ∷ now, next, cc (one.same, same), λ others z e. subst (λ q. IsDecls (λ d t. R d) f (TypedParam (λ d t. R d) f) (one.now ∷ now) others (lines_toks n 0 q) z) (sym (append_assoc (message_lines x 0) (all_lines message_lines xs 0) rest)) (gr.IsDecls.message one.spelled (spelled others z e)))
  messages-again _ _ i r (gr.IsDecls.class {c} {xs} {cs} h l) n rest low = messages-again xs cs _ _ l n rest low

parts-are : (kinds messages classes main : List Line) → kinds ++ messages ++ classes ++ main ≡ kinds ++ (messages ++ (classes ++ (main ++ [])))
parts-are kinds messages classes main = simp (append_assoc, append-nil)

-- ---- programs

pub again : (R : ℕ → Type 0) (down : (d : ℕ) → R (suc d) → R d) (f : ℕ) (t : Tree) (i : List Tok) → IsTypedProgram (λ d t. R d) f t i
    → (u : Tree) × (unlined u ≡ unlined t) × IsTypedProgram (λ d t. R d) f u (lines_toks 1 0 (tree_lines t))
unfolding unlined tree_lines
again R down f _ i (gr.IsProgram.program {k} {xs} {cs} {ls} a b c) =
    let mains = main_lines ls 0 ++ [] in
    let classes = all_lines class_lines cs 0 ++ mains in
    let messages = all_lines message_lines xs 0 ++ classes in
    let low_main : Low 0 mains = omega arith in
    let low_classes : Low 0 classes = low-all class_lines (λ c level. record { first = _; others = _; is = refl }) cs mains low_main in
    let kinds = kind-again k _ _ a 1 messages in
    let first = messages-again R down f xs cs _ _ b kinds.0 classes low_classes in
    let second = classes-again R down f xs cs _ _ b first.1 mains low_main in
    let last = main-again R down f ls _ _ c second.1 0 [] tt in (
      record { kind = k; messages = first.0; classes = second.0; main = last.now },
      cc (first.2, second.2, last.same),
      rw (parts-are (kind_lines k 0) (all_lines message_lines xs 0) (all_lines class_lines cs 0) (main_lines ls 0)) (gr.IsProgram.program kinds.1 (first.3 second.0 _ second.3) last.spelled),
    )

-- where so many things may be open at once, and where there is no bound
pub again-within : (most f : ℕ) (t : Tree) (i : List Tok) → IsTypedProgram (λ d t. d < most) f t i → (u : Tree) × (unlined u ≡ unlined t) × IsTypedProgram (λ d t. d < most) f u (lines_toks 1 0 (tree_lines t))
again-within most = again (λ d. d < most) (λ d h. omega arith)

pub again-anywhere : (f : ℕ) (t : Tree) (i : List Tok) → IsTypedProgram (λ d t. Unit {0}) f t i → (u : Tree) × (unlined u ≡ unlined t) × IsTypedProgram (λ d t. Unit {0}) f u (lines_toks 1 0 (tree_lines t))
again-anywhere = again (λ d. Unit {0}) (λ d h. tt)

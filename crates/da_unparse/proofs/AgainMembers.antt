-- The printed tokens of parameters, members, classes and declared messages spell them again, but for the numbers of lines, and
-- with no more nesting.
use Rattle.std.proofs.Common.{ℕ, suc, ◌+◌, List, [], ◌∷◌, ◌++◌, map, refl, ap}
use Rattle.std.specs.Prelude.{codes}
use Rattle.da_values.specs.declared.token.Mark.TheVariants as m
use Rattle.da_values.specs.Marks.{Tok}
use Rattle.da_lang.specs.declared.tree.Member.{Member}
use Rattle.da_lang.specs.declared.tree.Member.TheVariants as member
use Rattle.da_lang.specs.declared.tree.Param.{Param}
use Rattle.da_lang.specs.declared.tree.PatternTree.{PatternTree}
use Rattle.da_lang.specs.declared.tree.Stmt.{Stmt}
use Rattle.da_lang.specs.declared.ty.Ty.{Ty}
use Rattle.da_lang.specs.Grammar as gr
use Rattle.da_lang.specs.Grammar.{IsParam, TypedParam, IsParams, IsTypes, IsFrom, IsAt, IsMember, IsMessage, IsClass}
use Rattle.da_lang.specs.Spelling as g
use Rattle.da_lang.specs.Spelling.{Spelling, Room, Named, Ended}
use Rattle.da_lang.specs.TypeGrammar.{TypeIn}
use Rattle.da_lang.specs.ExprGrammar.{IsPattern, deeper}
use Rattle.da_lang.specs.StmtGrammar.{IsBlock, BodyIn}
use Rattle.da_unparse.specs.Expressions.{pattern_pieces, type_pieces}
use Rattle.da_unparse.specs.Lines.{lines_toks}
use Rattle.da_unparse.specs.Pieces.{gap, token, one, name, colon, between, before, in_parens, listed}
use Rattle.da_unparse.specs.Programs.{param, params, sender, labels, member_lines, message_lines, class_lines}
use Rattle.da_unparse.specs.Statements.{body_lines}
use Rattle.da_unparse.specs.Unlined.{unlined_member, unlined_message, unlined_class}
use Rattle.da_unparse.proofs.AgainExprs.{room-of}
use Rattle.da_unparse.proofs.AgainLines.{Begins, line-toks, Reprints, all_lines, ended-again}
use Rattle.da_unparse.proofs.AgainRules.{patterns-again}
use Rattle.da_unparse.proofs.AgainStmts.{block-again, body-again}
use Rattle.da_unparse.proofs.AgainTools.{put, tok_of, putting, put-after_def, put-after_receive, put-behind_call, put-between, Again, listed-again, closed-again}
use Rattle.da_unparse.proofs.AgainTypes.{opens-again, type-again}

param-again : (n : ℕ) {Type_ : Spelling Ty} → Again n Type_ Type_ type_pieces → Again n (IsParam Type_) (IsParam Type_) param
param-again n types _ i r (gr.IsParam.param {x} (g.Named.named {t} h) c a) s = simp putting (gr.IsParam.param (g.Named.named refl) (g.At.at refl) (types x _ _ a s))

from-again : (n : ℕ) {Pattern : Spelling PatternTree} → Again n Pattern Pattern pattern_pieces → Again n (IsFrom Pattern) (IsFrom Pattern) sender
from-again n patterns _ i r gr.IsFrom.no_from s = simp putting gr.IsFrom.no_from
from-again n patterns _ i r (gr.IsFrom.from {p} h a) s = simp putting (gr.IsFrom.from (g.At.at refl) (patterns p _ _ a s))

named-again : (n : ℕ) → Again n Named Named name
named-again n _ i r (g.Named.named {t} h) s = simp putting (g.Named.named refl)

some_labels : (n : ℕ) (w : List ℕ) (ws : List (List ℕ)) (i r : List Tok) → g.Separated m.Comma Named (w ∷ ws) i r → (s : List Tok) → IsAt (w ∷ ws) (put n (labels (w ∷ ws)) s) s
some_labels n w ws i r l s =
    rw (put-between n m.At (codes "at") (listed (map name (w ∷ ws))) s) (gr.IsAt.labels (g.At.at refl) (listed-again n name (named-again n) (w ∷ ws) _ _ l s))

at-again : (n : ℕ) → Again n IsAt IsAt labels
at-again n _ i r gr.IsAt.no_at s = simp putting gr.IsAt.no_at
at-again n _ i r (gr.IsAt.labels h (g.Separated.last {x} a)) s = some_labels n x [] _ _ (g.Separated.last a) s
at-again n _ i r (gr.IsAt.labels h (g.Separated.more {x} {xs} a c l)) s = some_labels n x xs _ _ (g.Separated.more a c l) s

-- a member's lines begin at its level
member-begins : (x : Member) (level : ℕ) → Begins level (member_lines x level)
member-begins (member.Var n x at) level = record { first = _; others = _; is = refl }
member-begins (member.Setup ps body at) level = record { first = _; others = _; is = refl }
member-begins (member.Run body at) level = record { first = _; others = _; is = refl }
member-begins (member.Method n ps body at) level = record { first = _; others = _; is = refl }
member-begins (member.Receive p from at_labels body at) level = record { first = _; others = _; is = refl }

module _ (R : ℕ → Type 0) (down : (d : ℕ) → R (suc d) → R d) (f : ℕ) where
  abbrev room : ℕ → Room
  room = λ d t. R d

  abbrev Block_ : Spelling (List Stmt)
  Block_ = IsBlock (room 1) (deeper room f 2) (BodyIn room f 2)

  abbrev Member_ : Spelling Member
  Member_ = IsMember (room 1) (TypeIn room f 1) (IsParams (TypedParam room f)) (IsPattern (room 1) (deeper room f 2)) Block_

  params-again : (n : ℕ) (ps : List Param) (i r : List Tok) → IsParams (TypedParam room f) ps i r → (s : List Tok) → IsParams (TypedParam room f) ps (put n (listed (map param ps)) (tok_of n m.CloseParen (codes ")") ∷ s)) s
  params-again n ps i r l s = closed-again n param (param-again n (type-again R n f 2)) m.CloseParen _ ps _ _ l s

  member-again : Reprints Member_ Member_ member_lines unlined_member
  member-again _ i r (gr.IsMember.var {n = w} {x} {t} h k c a z) n level rest low = record {
    now = member.Var w x n;
    next = n + 1;
    same = refl;
    spelled = rw (line-toks n level (before m.Var (codes "var") ++ name w ++ colon ++ gap ∷ type_pieces x) rest)
        (simp putting (gr.IsMember.var (g.At.at refl) (g.Named.named refl) (g.At.at refl) (type-again R n f 1 x _ _ a _) (g.At.at refl)));
  }
  member-again _ i r (gr.IsMember.setup {ps} {b} {t} h k o a c l) n level rest low =
      let (now, next, same, spelled) = block-again R down f 1 (body-again R down f 2) b _ _ l n level rest low in
      record {
        now = member.Setup ps now n;
        next = next;
        same = ap (λ z. member.Setup ps z 0) same;
        spelled = rw (line-toks n level (before m.Def (codes "def") ++ token m.Setup (codes "setup") ∷ params ps ++ colon) (body_lines b level ++ rest), put-after_def n m.Def (codes "def") m.Setup (codes "setup") (listed (map param ps)) (tok_of n m.Newline [] ∷ lines_toks (n + 1) level (body_lines b level ++ rest)))
            (gr.IsMember.setup (g.At.at refl) (g.At.at refl) (opens-again o _ _ refl) (params-again n ps _ _ a _) (g.At.at refl) spelled);
      }
  member-again _ i r (gr.IsMember.run {b} {t} h k o a c l) n level rest low =
      let (now, next, same, spelled) = block-again R down f 1 (body-again R down f 2) b _ _ l n level rest low in
      record {
        now = member.Run now n;
        next = next;
        same = ap (λ z. member.Run z 0) same;
        spelled = rw (line-toks n level (before m.Def (codes "def") ++ token m.Run (codes "run") ∷ params [] ++ colon) (body_lines b level ++ rest))
            (simp putting (gr.IsMember.run (g.At.at refl) (g.At.at refl) (opens-again o _ _ refl) (g.At.at refl) (g.At.at refl) spelled));
      }
  member-again _ i r (gr.IsMember.method {ps} {b} {t} (g.At.at h) (g.Named.named {t = w} k) o a c l) n level rest low =
      let (now, next, same, spelled) = block-again R down f 1 (body-again R down f 2) b _ _ l n level rest low in
      record {
        now = member.Method w.text ps now n;
        next = next;
        same = ap (λ z. member.Method w.text ps z 0) same;
        spelled = rw (line-toks n level (before m.Def (codes "def") ++ name w.text ++ params ps ++ colon) (body_lines b level ++ rest), put-after_def n m.Def (codes "def") m.Name w.text (listed (map param ps)) (tok_of n m.Newline [] ∷ lines_toks (n + 1) level (body_lines b level ++ rest)))
            (gr.IsMember.method (g.At.at refl) (g.Named.named refl) (opens-again o _ _ refl) (params-again n ps _ _ a _) (g.At.at refl) spelled);
      }
  member-again _ i r (gr.IsMember.receive {p} {o} {ns} {b} {t} h a e w c l) n level rest low =
      let (now, next, same, spelled) = block-again R down f 1 (body-again R down f 2) b _ _ l n level rest low in
      let patterns = patterns-again R down n f 1 in
      record {
        now = member.Receive p o ns now n;
        next = next;
        same = ap (λ z. member.Receive p o ns z 0) same;
        spelled = rw (line-toks n level (before m.Receive (codes "receive") ++ pattern_pieces p ++ sender o ++ labels ns ++ colon) (body_lines b level ++ rest), put-after_receive n m.Receive (codes "receive") (pattern_pieces p) (sender o) (labels ns) (tok_of n m.Newline [] ∷ lines_toks (n + 1) level (body_lines b level ++ rest)))
            (gr.IsMember.receive (g.At.at refl) (patterns p _ _ a _) (from-again n patterns o _ _ e _) (at-again n ns _ _ w _) (g.At.at refl) spelled);
      }

  pub class-again : Reprints (IsClass room f (TypedParam room f)) (IsClass room f (TypedParam room f)) class_lines unlined_class
  class-again _ i r (gr.IsClass.class {n = w} {ms} {t} h k x p c z o l) n level rest low =
      let inside = ended-again member_lines unlined_member member-again (λ x i r h. member-begins x) ms _ _ l (n + 1) level rest low in
      record {
        now = record { name = w; members = inside.now; line = n };
        next = inside.next;
        same = ap (λ z. record { name = w; members = z; line = 0 }) inside.same;
        spelled = rw (line-toks n level (before m.Class (codes "class") ++ name w ++ between m.Extends (codes "extends") ++ one m.Process (codes "process") ++ colon) (all_lines member_lines ms (level + 1) ++ rest))
            (simp putting (gr.IsClass.class (g.At.at refl) (g.Named.named refl) (g.At.at refl) (g.At.at refl) (g.At.at refl) (g.At.at refl) (g.Opens.opens (room-of o) inside.spelled.1) inside.spelled.2));
      }

  pub message-again : Reprints (IsMessage (λ d t. R d) f) (IsMessage (λ d t. R d) f) message_lines unlined_message
  message-again _ i r (gr.IsMessage.message {n = w} {xs} {t} h k o l z) n level rest low = record {
    now = record { tag = w; parts = xs; line = n };
    next = n + 1;
    same = refl;
    spelled = rw (line-toks n level (before m.Message (codes "message") ++ name w ++ in_parens (listed (map type_pieces xs))) rest, put-behind_call n m.Message (codes "message") m.Name w (listed (map type_pieces xs)) (tok_of n m.Newline [] ∷ lines_toks (n + 1) level rest))
        (gr.IsMessage.message (g.At.at refl) (g.Named.named refl) (opens-again o _ _ refl) (closed-again n type_pieces (type-again R n f 1) m.CloseParen _ xs _ _ l _) (g.At.at refl));
  }

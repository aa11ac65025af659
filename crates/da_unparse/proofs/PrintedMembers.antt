-- What is printed of members, messages, classes and lines of main that some tokens spell are lines that may follow each other.
use Rattle.std.proofs.Common.{ℕ, List, [], ◌∷◌, ◌++◌, map, refl}
use Rattle.da_values.specs.declared.token.Mark.TheVariants as m
use Rattle.da_lang.specs.declared.tree.MainLine.{MainLine}
use Rattle.da_lang.specs.declared.tree.Member.{Member}
use Rattle.da_lang.specs.declared.tree.Param.{Param}
use Rattle.da_lang.specs.declared.tree.PatternTree.{PatternTree}
use Rattle.da_lang.specs.declared.tree.Stmt.{Stmt}
use Rattle.da_lang.specs.declared.ty.Ty.{Ty}
use Rattle.da_lang.specs.Spelling.{Spelling, Room, Named}
use Rattle.da_lang.specs.TypeGrammar.{TypeIn}
use Rattle.da_lang.specs.ExprGrammar.{Deeper, deeper, IsPattern}
use Rattle.da_lang.specs.StmtGrammar.{IsBlock, BodyIn}
use Rattle.da_lang.specs.Grammar.{IsParam, IsFrom, IsAt, IsMember, IsCount, IsMline, TypedParam, IsParams, IsMessage, IsClass}
use Rattle.da_unparse.specs.Expressions.{either, all_at_least, shown, type_pieces}
use Rattle.da_unparse.specs.Pieces.{gap, name, colon}
use Rattle.da_unparse.specs.Printable.{Makes}
use Rattle.da_unparse.specs.Programs.{param, params, sender, labels, member_lines, message_lines, class_lines, count, main_line_lines}
use Rattle.da_unparse.specs.Statements.{stmt_lines}
use Rattle.da_unparse.proofs.PrintedParts.{solid, loose, Part, Optional, none, some, part, gap_part, join, next, as_solid, follow, after_optional, joined_part, between_part, before_part}
use Rattle.da_unparse.proofs.PrintedSteps.{Shows, past, past_open, name_shows, number_shows, EachHas, SomeHas, each_part, separated_shows, closed_shows, after_shows, comma_part, parens, listed_parens}
use Rattle.da_unparse.proofs.PrintedTypes.{TypePart, types_show}
use Rattle.da_unparse.proofs.PrintedOperators.{ExprPart, name_part, digits_part, each_at_least}
use Rattle.da_unparse.proofs.PrintedExprs.{PatternPart, DeepShows, deeper_shows, pattern_shows}
use Rattle.da_unparse.proofs.PrintedLines.{BlockStarts, line_starts, then_go, each_deeper, headed_starts}
use Rattle.da_unparse.proofs.PrintedStmts.{StmtStarts, body_blocks, ended_show, block_shows, body_shows}
use Rattle.da_unparse.proofs.PrintedWords.{makes-Colon, makes-From, makes-At, makes-Var, makes-Def, makes-Setup, makes-Run, makes-Receive, makes-Message, makes-Class, makes-Extends, makes-Process, makes-Assign, makes-New}

-- ---- the parts of members

-- NAME ":" type
typed_part : (n : List ℕ) (x : Ty) → Makes m.Name n → TypePart x → Part solid solid (name n ++ colon ++ gap ∷ type_pieces x)
typed_part n x named l = join (join (name_part solid named refl) (part loose solid makes-Colon refl refl refl refl)) (next gap_part l)

abbrev pub ParamPart : Param → Type 0
ParamPart p = Part solid solid (param p)

param_shows : (Type_ : Spelling Ty) → Shows Type_ TypePart → Shows (IsParam Type_) ParamPart
param_shows Type_ types _ i r (IsParam.param {n} {x} h c a) s =
    let (named, t) = name_shows _ _ _ h s in
    let (l, u) = types _ _ _ a (past c t) in
    (typed_part n x named l, u)

params_part : (ps : List Param) → EachHas ParamPart ps → Part loose solid (params ps)
params_part ps each = listed_parens loose refl (map param ps) (each_part ParamPart param (λ p l. l) ps each)

from_shows : (Pattern : Spelling PatternTree) → Shows Pattern PatternPart → Shows (IsFrom Pattern) (λ o. Optional loose solid (sender o))
from_shows Pattern patterns _ i r IsFrom.no_from s = (none, s)
from_shows Pattern patterns _ i r (IsFrom.from h a) s = let (l, t) = patterns _ _ _ a (past h s) in (some (next (between_part makes-From refl refl) l), t)

names_part : (ns : List (List ℕ)) → SomeHas (Makes m.Name) ns → Optional loose solid (labels ns)
names_part [] h = absurd h
names_part (n ∷ ns) h = some (next (between_part makes-At refl refl) (joined_part comma_part (name_part solid h.0 refl) (map name ns) (each_part (Makes m.Name) name (λ x named. name_part solid named refl) ns h.1)))

labels_show : Shows IsAt (λ ns. Optional loose solid (labels ns))
labels_show _ i r IsAt.no_at s = (none, s)
labels_show _ i r (IsAt.labels {ns} h l) s = let (each, t) = separated_shows Named (Makes m.Name) name_shows m.Comma ns _ _ l (past h s) in (names_part ns each, t)

abbrev pub MemberStarts : Member → Type 0
MemberStarts x = BlockStarts (member_lines x)

module _ (room : Room) (Type_ : Spelling Ty) (Params : Spelling (List Param)) (Pattern : Spelling PatternTree) (Block_ : Spelling (List Stmt))
    (types : Shows Type_ TypePart) (parameters : Shows Params (EachHas ParamPart)) (patterns : Shows Pattern PatternPart) (blocks : Shows Block_ (EachHas StmtStarts)) where
  pub member_shows : Shows (IsMember room Type_ Params Pattern Block_) MemberStarts
  member_shows _ i r (IsMember.var {n} {x} h a c b e) s =
      let (named, t) = name_shows _ _ _ a (past h s) in
      let (l, u) = types _ _ _ b (past c t) in
      (λ level. line_starts level (join (join (next (as_solid (before_part makes-Var refl refl refl)) (name_part solid named refl)) (part loose solid makes-Colon refl refl refl refl)) (next gap_part l)), past e u)
  member_shows _ i r (IsMember.setup {ps} {b} h k o l c e) s =
      let (each, t) = parameters _ _ _ l (past_open o (past k (past h s))) in
      let (stmts, u) = blocks _ _ _ e (past c t) in
      (headed_starts (next (as_solid (before_part makes-Def refl refl refl)) (join (part solid solid makes-Setup refl refl refl refl) (params_part ps each))) (map stmt_lines b) (body_blocks b stmts), u)
  member_shows _ i r (IsMember.run {b} h k o l c e) s =
      let (stmts, u) = blocks _ _ _ e (past c (past l (past_open o (past k (past h s))))) in
      (headed_starts (next (as_solid (before_part makes-Def refl refl refl)) (join (part solid solid makes-Run refl refl refl refl) (params_part [] tt))) (map stmt_lines b) (body_blocks b stmts), u)
  member_shows _ i r (IsMember.method {n} {ps} {b} h k o l c e) s =
      let (named, t) = name_shows _ _ _ k (past h s) in
      let (each, u) = parameters _ _ _ l (past_open o t) in
      let (stmts, v) = blocks _ _ _ e (past c u) in
      (headed_starts (join (next (as_solid (before_part makes-Def refl refl refl)) (name_part solid named refl)) (params_part ps each)) (map stmt_lines b) (body_blocks b stmts), v)
  member_shows _ i r (IsMember.receive {p} {o} {ns} {b} h a f l c e) s =
      let (message, t) = patterns _ _ _ a (past h s) in
      let (from, u) = from_shows Pattern patterns o _ _ f t in
      let (at, v) = labels_show ns _ _ l u in
      let (stmts, w) = blocks _ _ _ e (past c v) in
      (headed_starts (follow (follow (next (as_solid (before_part makes-Receive refl refl refl)) message) from) at) (map stmt_lines b) (body_blocks b stmts), w)

-- ---- lines of main

count_shows : Shows IsCount (λ o. Optional loose solid (count o))
count_shows _ i r IsCount.no_count s = (none, s)
count_shows _ i r (IsCount.count {n} h a) s = let (small, t) = number_shows _ _ _ a (past h s) in (some (next comma_part (as_solid (digits_part n small))), t)

abbrev pub MainLineStarts : MainLine → Type 0
MainLineStarts x = BlockStarts (main_line_lines x)

pub mline_shows : (room : Room) (deep : Deeper) → DeepShows deep → Shows (IsMline room deep) MainLineStarts
mline_shows room deep d _ i r (IsMline.new {n} {c} {o} h e k op a l z nl) s =
    let (named, t) = name_shows _ _ _ h s in
    let (class, u) = name_shows _ _ _ a (past_open op (past k (past e t))) in
    let (many, v) = count_shows o _ _ l u in
    (λ level. line_starts level (next (join (name_part solid named refl) (between_part makes-Assign refl refl)) (join (part solid solid makes-New refl refl refl refl) (parens loose refl (some (follow (name_part solid class refl) many))))), past nl (past z v))
mline_shows room deep d _ i r (IsMline.setup {n} {xs} h o a l z nl) s =
    let (named, t) = name_shows _ _ _ a (past_open o (past h s)) in
    let (each, u) = after_shows deep.disj ExprPart d.disj m.Comma xs _ _ l t in
    let others = after_optional comma_part (all_at_least either (map shown xs)) (each_at_least either xs each) in
    (λ level. line_starts level (join (part solid solid makes-Setup refl refl refl refl) (parens loose refl (some (follow (name_part solid named refl) others)))), past nl (past z u))

-- ---- messages and classes

module _ (room : ℕ → Room) (f : ℕ) where
  pub message_shows : Shows (IsMessage room f) (λ x. BlockStarts (message_lines x))
  message_shows _ i r (IsMessage.message {n} {xs} h a o l e) s =
      let (named, t) = name_shows _ _ _ a (past h s) in
      let (each, u) = closed_shows (TypeIn room f 1) TypePart (types_show room f 1) m.CloseParen xs _ _ l (past_open o t) in
      let parts = listed_parens loose refl (map type_pieces xs) (each_part TypePart type_pieces (λ x p. p) xs each) in
      (λ level. line_starts level (join (next (as_solid (before_part makes-Message refl refl refl)) (name_part solid named refl)) parts), past e u)

  members_show : Shows (IsMember (room 1) (TypeIn room f 1) (IsParams (TypedParam room f)) (IsPattern (room 1) (deeper room f 2)) (IsBlock (room 1) (deeper room f 2) (BodyIn room f 2))) MemberStarts
  members_show =
      member_shows (room 1) (TypeIn room f 1) (IsParams (TypedParam room f)) (IsPattern (room 1) (deeper room f 2)) (IsBlock (room 1) (deeper room f 2) (BodyIn room f 2))
      (types_show room f 1)
      (closed_shows (TypedParam room f) ParamPart (param_shows (TypeIn room f 2) (types_show room f 2)) m.CloseParen)
      (pattern_shows (room 1) (deeper room f 2) (deeper_shows room f 2))
      (block_shows (room 1) (deeper room f 2) (BodyIn room f 2) (deeper_shows room f 2) (body_shows room f 2))

  pub class_shows : Shows (IsClass room f (TypedParam room f)) (λ c. BlockStarts (class_lines c))
  class_shows _ i r (IsClass.class {n} {ms} h a x p c e o l) s =
      let (named, t) = name_shows _ _ _ a (past h s) in
      let (each, u) = ended_show _ MemberStarts members_show ms _ _ l (past_open o (past e (past c (past p (past x t))))) in
      let header = join (next (join (next (as_solid (before_part makes-Class refl refl refl)) (name_part solid named refl)) (between_part makes-Extends refl refl)) (part solid solid makes-Process refl refl refl refl)) (part loose solid makes-Colon refl refl refl refl) in
      (λ level. then_go level (line_starts level header) (each_deeper member_lines ms each level), u)

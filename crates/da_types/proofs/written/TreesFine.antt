-- What is noted of a written tree is fine.
use Rattle.std.specs.Prelude.{◌≡◌, refl, ℕ, zero, suc, ◌^◌, ◌<◌, ◌≤◌, List, [], ◌∷◌, ◌++◌, map, flat_map, filter_map, length, Option, Some, None, option_to_list}
use Rattle.std.specs.List.{cons_option}
use Rattle.std.proofs.Common.{◌∙◌, ap, sym, arith}
use Rattle.std.proofs.lemmas.Grind.{flat_map-append}
use Rattle.std.proofs.lemmas.List.{append-nil}
use Rattle.da_values.specs.declared.token.Mark.{Mark}
use Rattle.da_values.specs.Marks.{Tok}
use Rattle.da_lang.specs.declared.tree.ClassTree.{ClassTree}
use Rattle.da_lang.specs.declared.tree.MainLine.{MainLine}
use Rattle.da_lang.specs.declared.tree.Member.{Member}
use Rattle.da_lang.specs.declared.tree.MessageDecl.{MessageDecl}
use Rattle.da_lang.specs.declared.tree.Param.{Param}
use Rattle.da_lang.specs.declared.tree.PatternTree.{PatternTree}
use Rattle.da_lang.specs.declared.tree.Stmt.{Stmt}
use Rattle.da_lang.specs.declared.tree.Tree.{Tree}
use Rattle.da_lang.specs.declared.ty.Ty.{Ty}
use Rattle.da_lang.specs.Accepted.{IsWritten}
use Rattle.da_lang.specs.ClassParts.{Body, body_in}
use Rattle.da_lang.specs.Deeds.{deeds, deeds_of}
use Rattle.da_lang.specs.ExprGrammar.{IsPattern, deeper}
use Rattle.da_lang.specs.Grammar.{IsAt, IsClass, IsCount, IsDecls, IsFrom, IsKind, IsMain, IsMember, IsMessage, IsMline, IsParam, IsParams, IsProgram, IsTypedProgram, Spells, TypedParam}
use Rattle.da_lang.specs.Spelling.{Spelling, Room, Closed, Named, Separated}
use Rattle.da_lang.specs.StmtGrammar.{BodyIn, IsBlock}
use Rattle.da_lang.specs.TypeGrammar.{IsType, TypeIn}
use Rattle.da_types.specs.Constants.{Notes, AreFine, all, body_notes, class_notes, deed_notes, line_notes, notes, pattern_notes, tree_notes}
use Rattle.da_types.proofs.resolved.NotesKept.{signs-append}
use Rattle.da_types.proofs.totality.FoundMatches.{flattened}
use Rattle.da_types.proofs.written.ExprsFine.{deeper_says, pattern_says, PatternSays}
use Rattle.da_types.proofs.written.Says.{Says, nothing, token, opener, name_says, number_says, both, after, until, less, noted, after_says, ended_says}
use Rattle.da_types.proofs.written.StmtsFine.{block_says, body_says, stmt_notes}

-- tokens of which nothing is noted
abbrev Passes : {A : Type 0} → Spelling A → Type 0
Passes {A} Rule = (x : A) (t r : List Tok) → Rule x t r → length r ≤ length t

silent : {t r : List Tok} → length r ≤ length t → Says 0 [] t r
silent shorter = record { size = omega (arith, shorter); fine = λ n h. absurd h }

module _ {A : Type 0} (Item : Spelling A) (passes : Passes Item) where
  separated_passes : (k : Mark) → Passes (Separated k Item)
  separated_passes k _ t r (Separated.last h) = passes _ _ _ h
  separated_passes k _ t r (Separated.more h comma others) = omega (arith, passes _ _ _ h, (token comma).size, separated_passes k _ _ _ others)

  closed_passes : (k : Mark) → Passes (Closed k Item)
  closed_passes k _ t r (Closed.empty h) = omega (arith, (token h).size)
  closed_passes k _ t r (Closed.full hs over) = omega (arith, separated_passes _ _ _ _ hs, (token over).size)

layer_passes : (room : Room) (Inner : Spelling Ty) → Passes Inner → Passes (IsType room Inner)
layer_passes room Inner passes _ t r (IsType.int h) = omega (arith, (token h).size)
layer_passes room Inner passes _ t r (IsType.bool h) = omega (arith, (token h).size)
layer_passes room Inner passes _ t r (IsType.str h) = omega (arith, (token h).size)
layer_passes room Inner passes _ t r (IsType.proc h) = omega (arith, (token h).size)
layer_passes room Inner passes _ t r (IsType.set h o x c) = omega (arith, (token h).size, (opener o).size, passes _ _ _ x, (token c).size)
layer_passes room Inner passes _ t r (IsType.tuple o x comma xs) = omega (arith, (opener o).size, passes _ _ _ x, (token comma).size, closed_passes Inner passes _ _ _ _ xs)

type_passes : (room : ℕ → Room) (f d : ℕ) → Passes (TypeIn room f d)
unfolding TypeIn
type_passes room zero d x t r h = absurd h
type_passes room (suc f) d x t r h = layer_passes (room d) (TypeIn room f (suc d)) (type_passes room f (suc d)) x t r h

param_passes : (Type_ : Spelling Ty) → Passes Type_ → Passes (IsParam Type_)
param_passes Type_ passes _ t r (IsParam.param n colon x) = omega (arith, (name_says n).size, (token colon).size, passes _ _ _ x)

name_passes : Passes Named
name_passes n t r h = omega (arith, (name_says h).size)

labels_pass : Passes IsAt
labels_pass _ t r IsAt.no_at = omega arith
labels_pass _ t r (IsAt.labels h ns) = omega (arith, (token h).size, separated_passes Named name_passes _ _ _ _ ns)

-- the notes of a member
abbrev body_if : Option Body → Notes
body_if None = []
body_if (Some b) = body_notes b

abbrev member_notes : Member → Notes
member_notes x = body_if (body_in x)

stmts_noted : (ss : List Stmt) → all (map stmt_notes ss) ≡ flat_map deed_notes (deeds ss)
stmts_noted [] = refl
stmts_noted (s ∷ ss) = ap (λ z. stmt_notes s ++ z) (stmts_noted ss) ∙ sym (flat_map-append deed_notes (deeds_of s) (deeds ss))

from_says : {o : Option PatternTree} {t r : List Tok} (Pattern : Spelling PatternTree) → PatternSays Pattern → IsFrom Pattern o t r → Says 0 (flat_map pattern_notes (option_to_list o)) t r
from_says Pattern says IsFrom.no_from = nothing
from_says Pattern says (IsFrom.from h p) = less (omega arith) (after (token h) (noted (append-nil _) (says _ _ _ p)))

module _ (room : Room) (Type_ : Spelling Ty) (Params : Spelling (List Param)) (Pattern : Spelling PatternTree) (Block : Spelling (List Stmt)) (types : Passes Type_) (params : Passes Params) (patterns : PatternSays Pattern)
    (blocks : (b : List Stmt) (t r : List Tok) → Block b t r → Says 1 (all (map stmt_notes b)) t r) where
  member_says : {x : Member} {t r : List Tok} → IsMember room Type_ Params Pattern Block x t r → Says 1 (member_notes x) t r
  member_says (IsMember.var h n colon x over) = until (until (until (until (token h) (name_says n)) (token colon)) (silent (types _ _ _ x))) (token over)
  member_says (IsMember.setup {ps} {b} h word o qs colon inner) = noted (sym (stmts_noted b)) (after (token h) (after (token word) (after (opener o) (after (silent (params _ _ _ qs)) (after (token colon) (blocks _ _ _ inner))))))
  member_says (IsMember.run {b} h word o c colon inner) = noted (sym (stmts_noted b)) (after (token h) (after (token word) (after (opener o) (after (token c) (after (token colon) (blocks _ _ _ inner))))))
  member_says (IsMember.method {n} {ps} {b} h name o qs colon inner) = noted (sym (stmts_noted b)) (after (token h) (after (name_says name) (after (opener o) (after (silent (params _ _ _ qs)) (after (token colon) (blocks _ _ _ inner))))))
  member_says (IsMember.receive {p} {o} {ns} {b} h q sender at_ colon inner) =
      noted (ap (λ z. flat_map pattern_notes (p ∷ option_to_list o) ++ z) (sym (stmts_noted b)))
      (after (token h) (both (both (patterns _ _ _ q) (from_says Pattern patterns sender)) (after (silent (labels_pass _ _ _ at_)) (after (token colon) (blocks _ _ _ inner)))))

bodies_noted : (ms : List Member) → all (map member_notes ms) ≡ flat_map body_notes (filter_map body_in ms)
bodies_noted [] = refl
bodies_noted (x ∷ ms) = ap (λ z. member_notes x ++ z) (bodies_noted ms) ∙ go (body_in x)
  where
    go : (o : Option Body) → body_if o ++ flat_map body_notes (filter_map body_in ms) ≡ flat_map body_notes (cons_option o (filter_map body_in ms))
    go None = refl
    go (Some b) = refl

count_passes : Passes IsCount
count_passes _ t r IsCount.no_count = omega arith
count_passes _ t r (IsCount.count comma n) = omega (arith, (token comma).size, (number_says n).size)

module _ (room : ℕ → Room) (f : ℕ) where
  mline_says : {x : MainLine} {t r : List Tok} → IsMline (room 1) (deeper room f 2) x t r → Says 1 (line_notes x) t r
  mline_says (IsMline.new n h word o c many over line) = until (until (until (until (until (until (until (name_says n) (token h)) (token word)) (opener o)) (name_says c)) (silent (count_passes _ _ _ many))) (token over)) (token line)
  mline_says (IsMline.setup {n} {xs} h o name args c line) =
      noted (sym (flattened notes xs)) (after (token h) (after (opener o) (after (name_says name) (until (until (after_says notes (deeper room f 2).disj (deeper_says room f 2).disj args) (token c)) (token line)))))

  message_passes : Passes (IsMessage room f)
  message_passes _ t r (IsMessage.message h n o xs line) = omega (arith, (token h).size, (name_says n).size, (opener o).size, closed_passes (TypeIn room f 1) (type_passes room f 1) _ _ _ _ xs, (token line).size)

  main_says : {ls : List MainLine} {t r : List Tok} → IsMain room f ls t r → Says 1 (flat_map line_notes ls) t r
  main_says (IsMain.main {ls} h word o c colon line indent lines) =
      noted (sym (flattened line_notes ls)) (after (token h) (after (token word) (after (opener o) (after (token c) (after (token colon) (after (token line) (after (opener indent) (ended_says line_notes (IsMline (room 1) (deeper room f 2)) (λ x t r h. mline_says h) lines))))))))

kind_passes : Passes IsKind
kind_passes _ t r IsKind.no_kind = omega arith
kind_passes _ t r (IsKind.fifo_reliable a b c d) = omega (arith, (token a).size, (token b).size, (token c).size, (token d).size)
kind_passes _ t r (IsKind.unordered_reliable a b c d) = omega (arith, (token a).size, (token b).size, (token c).size, (token d).size)
kind_passes _ t r (IsKind.fifo_unreliable a b c d) = omega (arith, (token a).size, (token b).size, (token c).size, (token d).size)
kind_passes _ t r (IsKind.unordered_unreliable a b c d) = omega (arith, (token a).size, (token b).size, (token c).size, (token d).size)

-- where each parameter has its type
module _ (room : ℕ → Room) (f : ℕ) where
  abbrev Parameter : Spelling Param
  Parameter = TypedParam room f

  class_says : {c : ClassTree} {t r : List Tok} → IsClass room f Parameter c t r → Says 1 (class_notes c) t r
  class_says (IsClass.class {n} {ms} h name extends process colon line o members) =
      let deep = deeper room f 2 in
      noted (sym (bodies_noted ms))
      (after (token h) (after (name_says name) (after (token extends) (after (token process) (after (token colon) (after (token line) (after (opener o)
      (ended_says member_notes (IsMember (room 1) (TypeIn room f 1) (IsParams Parameter) (IsPattern (room 1) deep) (IsBlock (room 1) deep (BodyIn room f 2)))
      (λ x t r h. member_says (room 1) (TypeIn room f 1) (IsParams Parameter) (IsPattern (room 1) deep) (IsBlock (room 1) deep (BodyIn room f 2))
      (type_passes room f 1) (closed_passes Parameter (param_passes (TypeIn room f 2) (type_passes room f 2)) _) (pattern_says (room 1) deep (deeper_says room f 2))
      (λ b t r k. block_says (room 1) deep (deeper_says room f 2) (BodyIn room f 2) (body_says room f 2) k) h) members))))))))

  decls_say : {xs : List MessageDecl} {cs : List ClassTree} {t r : List Tok} → IsDecls room f Parameter xs cs t r → Says 0 (flat_map class_notes cs) t r
  decls_say IsDecls.no_decl = nothing
  decls_say (IsDecls.message x others) = after (silent (message_passes room f _ _ _ x)) (decls_say others)
  decls_say (IsDecls.class c others) = less (omega arith) (both (class_says c) (decls_say others))

  program_says : {t : Tree} {tokens : List Tok} → IsTypedProgram room f t tokens → length tokens < 2 ^ 32 → AreFine (tree_notes t)
  program_says {t} (IsProgram.program k decls lines) few =
      let classes = decls_say decls in
      let main = main_says room f lines in
      record { each = (both classes main).fine; few = omega (arith, few, kind_passes _ _ _ k, classes.size, main.size, signs-append (flat_map class_notes t.classes) (flat_map line_notes t.main)) }

pub written_fine : (t : Tree) → IsWritten t → AreFine (tree_notes t)
unfolding Spells
written_fine t written = let (spelled, (f, spells)) = written.spells in program_says (λ d t. Unit {0}) f spells written.few

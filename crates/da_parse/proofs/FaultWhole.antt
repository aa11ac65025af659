-- Whole programs: what is shown of a place where the reader stops.
use Rattle.std.proofs.Common.{◌≡◌, ℕ, zero, suc, ◌+◌, ◌-◌, ◌≤◌, ◌<◌, Bool, true, false, List, [], ◌∷◌, ◌++◌, length, Option, Some, None, Ok, Err, refl, sym, ap, ◌∙◌, subst, arith, append_assoc, append-nil}
use Rattle.std.specs.Prelude.{nat_lt}
use Rattle.da_values.specs.declared.token.Mark.{Mark}
use Rattle.da_values.specs.declared.token.Mark.TheVariants as m
use Rattle.da_values.specs.Marks.{Tok}
use Rattle.da_lang.specs.declared.tree.ClassTree.{ClassTree}
use Rattle.da_lang.specs.declared.tree.MainLine.{MainLine}
use Rattle.da_lang.specs.declared.tree.MessageDecl.{MessageDecl}
use Rattle.da_lang.specs.declared.tree.Param.{Param}
use Rattle.da_lang.specs.declared.tree.Tree.{Tree}
use Rattle.da_lang.specs.declared.ty.ChannelKind.{ChannelKind}
use Rattle.da_lang.specs.Spelling as sp
use Rattle.da_lang.specs.Spelling.{Spelling, Room, At, Ended}
use Rattle.da_lang.specs.ExprGrammar.{deeper}
use Rattle.da_lang.specs.Grammar as g
use Rattle.da_lang.specs.Grammar.{IsMline, IsMessage, IsClass, IsDecls, IsMain, IsProgram}
use Rattle.da_phrases.specs.Reader.{mark, line, Reader}
use Rattle.da_parse.specs.Programs.{Outer, kind, message, class, main_line, main, program_end, decls_by, decls_from, decls, program}
use Rattle.da_phrases.proofs.Faults.{Rule, Anywhere, Makes, Cut, Follows, Good, Whole}
use Rattle.da_phrases.proofs.FaultSteps.{bind, bind_good, pure_whole, by_mark_good, at_line_good, good_on, whole_as, past_line, opening_whole, expect_whole}
use Rattle.da_phrases.proofs.FaultLists.{ended_whole}
use Rattle.da_parse.proofs.FaultPrograms.{kind-whole, finish-whole, decls_enough, main_marks}

-- of two readers of the parts of programs
module _ (c : Cut) (Q : Type 0) (N : ℕ) (o o1 : Outer) (Parameter : Rule Param)
    (mains : Whole c Q main_marks (main o) (main o1) (λ room. IsMain room N))
    (messages : (at_it : ℕ) → Good c Q Anywhere (message o at_it) (message o1 at_it) (λ room z q s. (i : List Tok) → At m.Message i q → sp.line i ≡ at_it → IsMessage room N z i s))
    (classes : (at_it : ℕ) → Good c Q Anywhere (class o at_it) (class o1 at_it) (λ room z q s. (i : List Tok) → At m.Class i q → sp.line i ≡ at_it → IsClass room N (Parameter room) z i s))
    (message_keeps : (at_it : ℕ) (i : List Tok) (y : MessageDecl × List Tok) → message o at_it i ≡ Ok y → length y.1 ≤ length i)
    (class_keeps : (at_it : ℕ) (i : List Tok) (y : ClassTree × List Tok) → class o at_it i ≡ Ok y → length y.1 ≤ length i)
    (message_keeps1 : (at_it : ℕ) (i : List Tok) (y : MessageDecl × List Tok) → message o1 at_it i ≡ Ok y → length y.1 ≤ length i)
    (class_keeps1 : (at_it : ℕ) (i : List Tok) (y : ClassTree × List Tok) → class o1 at_it i ≡ Ok y → length y.1 ≤ length i) where
  module _ (k : ChannelKind) where
    -- after those found come these messages and classes, and `main`
    abbrev RestOf : List MessageDecl → List ClassTree → Rule Tree
    RestOf xs cs room z i s = s ≡ [] → (ms : List MessageDecl) × (ds : List ClassTree) × (ls : List MainLine) × (r : List Tok)
        × (z ≡ record { kind = k; messages = xs ++ ms; classes = cs ++ ds; main = ls }) × IsDecls room N (Parameter room) ms ds i r × IsMain room N ls r []

    program_end-whole : (xs : List MessageDecl) (cs : List ClassTree) → Whole c Q main_marks (program_end o k xs cs) (program_end o1 k xs cs) (RestOf xs cs)
    unfolding program_end
    program_end-whole xs cs = bind c Q mains (λ ls. bind c Q (finish-whole c Q) (λ _.
        pure_whole c Q (record { kind = k; messages = xs; classes = cs; main = ls }) (λ room i i1 same i2 there empty.
        ([], [], ls, i2, cc (append-nil xs, append-nil cs), g.no_decl, subst (λ v. IsMain room N ls i2 v) (same ∙ empty) there))))

    decls_by-good : (g1 h1 : List MessageDecl → List ClassTree → Reader Tree) → ((xs : List MessageDecl) (cs : List ClassTree) → Whole c Q main_marks (g1 xs cs) (h1 xs cs) (RestOf xs cs))
        → (xs : List MessageDecl) (cs : List ClassTree) (b : Option Mark) → Good c Q (λ i. mark i ≡ b) (decls_by o k g1 xs cs b) (decls_by o1 k h1 xs cs b) (RestOf xs cs)
    decls_by-good g1 h1 next xs cs (Some m.Message) = at_line_good c Q (λ at_it. past_line c Q m.Message at_it (λ i ok. ok)
        (bind_good c Q (messages at_it) (λ x. whole_as c Q (λ room z i s later i1 one i2 there lined empty.
        let (ms, ds, ls, r, is, ones, end) = later empty in
        (x ∷ ms, ds, ls, r, is ∙ ap (λ v. record { kind = k; messages = v; classes = cs ++ ds; main = ls }) (append_assoc xs (x ∷ []) ms), g.IsDecls.message (one i2 there lined) ones, end)) (next (xs ++ x ∷ []) cs))))
    decls_by-good g1 h1 next xs cs (Some m.Class) = at_line_good c Q (λ at_it. past_line c Q m.Class at_it (λ i ok. ok)
        (bind_good c Q (classes at_it) (λ x. whole_as c Q (λ room z i s later i1 one i2 there lined empty.
        let (ms, ds, ls, r, is, ones, end) = later empty in
        (ms, x ∷ ds, ls, r, is ∙ ap (λ v. record { kind = k; messages = xs ++ ms; classes = v; main = ls }) (append_assoc cs (x ∷ []) ds), g.IsDecls.class (one i2 there lined) ones, end)) (next xs (cs ++ x ∷ [])))))
    decls_by-good g1 h1 next xs cs _ = good_on c Q (λ i ok. tt) (program_end-whole xs cs).good

    decls_from-whole : (n : ℕ) (xs : List MessageDecl) (cs : List ClassTree) → Whole c Q main_marks (decls_from o k n xs cs) (decls_from o1 k n xs cs) (RestOf xs cs)
    unfolding decls_from
    decls_from-whole zero xs cs = program_end-whole xs cs
    decls_from-whole (suc n) xs cs = record {
      good = by_mark_good c Q (λ b. good_on c Q (λ i ok. ok.1) (decls_by-good (decls_from o k n) (decls_from o1 k n) (decls_from-whole n) xs cs b));
      makes = (program_end-whole xs cs).makes;
    }

    decls-whole : Whole c Q main_marks (decls o k) (decls o1 k) (RestOf [] [])
    unfolding decls
    decls-whole = record {
      good = record {
        viable = λ so. record {
          moves = λ i ok. ((decls_from-whole (length i) [] []).good.viable so).moves i tt;
          stops = λ i ok. ((decls_from-whole (length i) [] []).good.viable so).stops i tt;
        };
        local = λ so i ok j a.
            let n : ℕ = length i + length j in
            subst (λ v. Follows c v (decls_from o1 k (length j) [] [] j)) (sym (decls_enough o k message_keeps class_keeps (length i) n [] [] i (omega arith) (omega arith)))
            (subst (λ v. Follows c (decls_from o k n [] [] i) v) (sym (decls_enough o1 k message_keeps1 class_keeps1 (length j) n [] [] j (omega arith) (omega arith))) ((decls_from-whole n [] []).good.local so i tt j a));
      };
      makes = (program_end-whole [] []).makes;
    }

  -- what is spelled up to the end is a program
  pub program-whole : Whole c Q main_marks (program o) (program o1) (λ room z i s. s ≡ [] → IsProgram room N (Parameter room) z i)
  unfolding program
  program-whole = bind c Q (kind-whole c Q) (λ k. whole_as c Q (λ room z i s later i1 kind_is empty.
      let (ms, ds, ls, r, is, ones, end) = later empty in subst (λ v. IsProgram room N (Parameter room) v i1) (sym is) (g.program kind_is ones end)) (decls-whole k))

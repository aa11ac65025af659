-- The texts of terms, patterns and conditions, one equation for each form.
use Rattle.std.specs.Prelude.{◌≡◌, ℕ, suc, ◌<◌, ◌≤◌, ◌+◌, ◌-◌, Bool, true, false, List, [], ◌∷◌, ◌++◌, map, length, take, drop, get_or, codes, Option, slice_index_or, refl}
use Rattle.std.specs.List.{flat_map}
use Rattle.std.proofs.Common.{ap, sym, ◌∙◌, append_assoc, append-nil, arith}
use Rattle.std.proofs.lemmas.Grind.{flat_map-append}
use Rattle.std.proofs.lemmas.List.{map-append, take_all, take_more, take_rest}
use Rattle.da_values.specs.declared.value.Value.{Value}
use Rattle.da_values.specs.Text.{separated, value_text}
use Rattle.da_values.specs.Value.{val_of}
use Rattle.da_lang.specs.declared.query.Agg.{Agg}
use Rattle.da_lang.specs.declared.query.Cond.{Cond, roll-Cond}
use Rattle.da_lang.specs.declared.query.Cond.TheVariants as cond
use Rattle.da_lang.specs.declared.query.Cond.TheFolds.{fold-Agg, fold-SignedOperand, fold-roll-Cond, fold-roll-Operand, fold_out-SignedOperand, map-Cond, map-Operand}
use Rattle.da_lang.specs.declared.query.Cond.TheOpen.{Cond-F, Operand-F}
use Rattle.da_lang.specs.declared.query.Operand.{Operand, roll-Operand}
use Rattle.da_lang.specs.declared.query.Operand.TheVariants as operand
use Rattle.da_lang.specs.declared.query.Pattern.{Pattern}
use Rattle.da_lang.specs.declared.query.Pattern.TheVariants as pattern
use Rattle.da_lang.specs.declared.query.Pattern.TheOpen as pattern_layer
use Rattle.da_lang.specs.declared.query.Pattern.TheFolds.{fold-roll-Pattern}
use Rattle.da_lang.specs.declared.query.RGen.{RGen}
use Rattle.da_lang.specs.declared.query.SignedOperand.{SignedOperand}
use Rattle.da_lang.specs.declared.query.Term.{Term}
use Rattle.da_lang.specs.declared.query.Term.TheVariants as term
use Rattle.da_lang.specs.declared.query.Term.TheOpen as term_layer
use Rattle.da_lang.specs.declared.query.Term.TheFolds.{fold-roll-Term}
use Rattle.da_lang.specs.declared.tree.CmpOp.{CmpOp}
use Rattle.query_plan.specs.PlanText.{slot_text, part_text, tuple_end, term_step, term_text, Written, all_written, pattern_step, written, pattern_text, parts_behind, pattern_texts, parts_after_all, sign_text, opening, ending, Side, cond_step, operand_step, agg_step, signed_step, cond_text, operand_text, signed_text}

-- Terms.

length-map : {A B : Type 0} (f : A → B) (xs : List A) → length (map f xs) ≡ length xs
length-map f [] = refl
length-map f (x ∷ xs) = ap (λ n. suc n) (length-map f xs)

pub term_text-Const : (c : Value) → term_text (term.Const c) ≡ value_text (val_of c)
unfolding term_text
term_text-Const c = ap term_text (sym (term.rolls-Const c)) ∙ fold-roll-Term (List ℕ) term_step (term_layer.Const c)

pub term_text-Me : term_text term.Me ≡ codes "self"
unfolding term_text
term_text-Me = ap term_text (sym term.rolls-Me) ∙ fold-roll-Term (List ℕ) term_step term_layer.Me

pub term_text-Slot : (s : ℕ) → term_text (term.Slot s) ≡ slot_text s
unfolding term_text
term_text-Slot s = ap term_text (sym (term.rolls-Slot s)) ∙ fold-roll-Term (List ℕ) term_step (term_layer.Slot s)

pub term_text-Part : (k : ℕ) → term_text (term.Part k) ≡ part_text k
unfolding term_text
term_text-Part k = ap term_text (sym (term.rolls-Part k)) ∙ fold-roll-Term (List ℕ) term_step (term_layer.Part k)

pub term_text-Tuple : (parts : List Term) → term_text (term.Tuple parts) ≡ codes "(" ++ separated (map term_text parts) ++ tuple_end (length parts)
unfolding term_text
term_text-Tuple parts =
    ap term_text (sym (term.rolls-Tuple parts)) ∙ fold-roll-Term (List ℕ) term_step (term_layer.Tuple parts)
    ∙ ap (λ n. codes "(" ++ separated (map term_text parts) ++ tuple_end n) (length-map term_text parts)

pub term_text-Foreign : term_text term.Foreign ≡ codes "?"
unfolding term_text
term_text-Foreign = ap term_text (sym term.rolls-Foreign) ∙ fold-roll-Term (List ℕ) term_step term_layer.Foreign

pub ruleset term_rules = (append_assoc, term_text-Const, term_text-Me, term_text-Slot, term_text-Part, term_text-Tuple, term_text-Foreign)

-- Patterns.

module _ (k : ℕ) where
  abbrev at : Pattern → List ℕ × ℕ
  at p = written p k

  written-Any : written pattern.Any k ≡ (codes "_", k)
  written-Any = ap at (sym pattern.rolls-Any) ∙ ap (λ (w : Written). w k) (fold-roll-Pattern Written pattern_step pattern_layer.Any)

  written-Bind : written pattern.Bind k ≡ (part_text (suc k), suc k)
  written-Bind = ap at (sym pattern.rolls-Bind) ∙ ap (λ (w : Written). w k) (fold-roll-Pattern Written pattern_step pattern_layer.Bind)

  written-Const : (c : Value) → written (pattern.Const c) k ≡ (value_text (val_of c), k)
  written-Const c = ap at (sym (pattern.rolls-Const c)) ∙ ap (λ (w : Written). w k) (fold-roll-Pattern Written pattern_step (pattern_layer.Const c))

  written-Me : written pattern.Me k ≡ (codes "self", k)
  written-Me = ap at (sym pattern.rolls-Me) ∙ ap (λ (w : Written). w k) (fold-roll-Pattern Written pattern_step pattern_layer.Me)

  written-Equal : (t : Term) → written (pattern.Equal t) k ≡ (codes "=" ++ term_text t, k)
  written-Equal t = ap at (sym (pattern.rolls-Equal t)) ∙ ap (λ (w : Written). w k) (fold-roll-Pattern Written pattern_step (pattern_layer.Equal t))

  written-Tuple : (parts : List Pattern) → written (pattern.Tuple parts) k ≡ pattern_step (pattern_layer.Tuple (map written parts)) k
  written-Tuple parts = ap at (sym (pattern.rolls-Tuple parts)) ∙ ap (λ (w : Written). w k) (fold-roll-Pattern Written pattern_step (pattern_layer.Tuple parts))

pub pattern_text-Any : (k : ℕ) → pattern_text pattern.Any k ≡ codes "_"
unfolding pattern_text
pattern_text-Any k = ap (λ w. w.0) (written-Any k)

pub pattern_text-Bind : (k : ℕ) → pattern_text pattern.Bind k ≡ part_text (suc k)
unfolding pattern_text
pattern_text-Bind k = ap (λ w. w.0) (written-Bind k)

pub pattern_text-Const : (c : Value) (k : ℕ) → pattern_text (pattern.Const c) k ≡ value_text (val_of c)
unfolding pattern_text
pattern_text-Const c k = ap (λ w. w.0) (written-Const k c)

pub pattern_text-Me : (k : ℕ) → pattern_text pattern.Me k ≡ codes "self"
unfolding pattern_text
pattern_text-Me k = ap (λ w. w.0) (written-Me k)

pub pattern_text-Equal : (t : Term) (k : ℕ) → pattern_text (pattern.Equal t) k ≡ codes "=" ++ term_text t
unfolding pattern_text
pattern_text-Equal t k = ap (λ w. w.0) (written-Equal k t)

texts_long : (ps : List Pattern) (k : ℕ) → length (pattern_texts ps k) ≡ length ps
unfolding pattern_texts
texts_long [] k = refl
texts_long (p ∷ ps) k = ap (λ n. suc n) (texts_long ps (written p k).1)

pub pattern_text-Tuple : (parts : List Pattern) (k : ℕ) → pattern_text (pattern.Tuple parts) k ≡ codes "(" ++ separated (pattern_texts parts k) ++ tuple_end (length parts)
unfolding pattern_text pattern_texts
pattern_text-Tuple parts k = ap (λ w. w.0) (written-Tuple k parts) ∙ ap (λ n. codes "(" ++ separated (pattern_texts parts k) ++ tuple_end n) (texts_long parts k)

pub parts_behind-Any : (k : ℕ) → parts_behind pattern.Any k ≡ k
unfolding parts_behind
parts_behind-Any k = ap (λ w. w.1) (written-Any k)

pub parts_behind-Bind : (k : ℕ) → parts_behind pattern.Bind k ≡ k + 1
unfolding parts_behind
parts_behind-Bind k = ap (λ w. w.1) (written-Bind k) ∙ omega arith

pub parts_behind-Const : (c : Value) (k : ℕ) → parts_behind (pattern.Const c) k ≡ k
unfolding parts_behind
parts_behind-Const c k = ap (λ w. w.1) (written-Const k c)

pub parts_behind-Me : (k : ℕ) → parts_behind pattern.Me k ≡ k
unfolding parts_behind
parts_behind-Me k = ap (λ w. w.1) (written-Me k)

pub parts_behind-Equal : (t : Term) (k : ℕ) → parts_behind (pattern.Equal t) k ≡ k
unfolding parts_behind
parts_behind-Equal t k = ap (λ w. w.1) (written-Equal k t)

pub parts_behind-Tuple : (parts : List Pattern) (k : ℕ) → parts_behind (pattern.Tuple parts) k ≡ parts_after_all parts k
unfolding parts_behind parts_after_all
parts_behind-Tuple parts k = ap (λ w. w.1) (written-Tuple k parts)

pub ruleset pattern_rules = (append_assoc, pattern_text-Any, pattern_text-Bind, pattern_text-Const, pattern_text-Me, pattern_text-Equal, pattern_text-Tuple, parts_behind-Any, parts_behind-Bind, parts_behind-Const, parts_behind-Me, parts_behind-Equal, parts_behind-Tuple)

-- Patterns one after the other, from the first and from those before the last.

pattern_texts-first : (p : Pattern) (ps : List Pattern) (k : ℕ) → pattern_texts (p ∷ ps) k ≡ pattern_text p k ∷ pattern_texts ps (parts_behind p k)
unfolding pattern_texts pattern_text parts_behind
pattern_texts-first p ps k = refl

parts_after_all-first : (p : Pattern) (ps : List Pattern) (k : ℕ) → parts_after_all (p ∷ ps) k ≡ parts_after_all ps (parts_behind p k)
unfolding parts_after_all parts_behind
parts_after_all-first p ps k = refl

all_written-last : (ws : List Written) (w : Written) (k : ℕ) → all_written (ws ++ w ∷ []) k ≡ ((all_written ws k).0 ++ (w (all_written ws k).1).0 ∷ [], (w (all_written ws k).1).1)
all_written-last [] w k = refl
all_written-last (v ∷ ws) w k = ap (λ all. ((v k).0 ∷ all.0, all.1)) (all_written-last ws w (v k).1)

written_more : (ps : List Pattern) (i k : ℕ) (p : Pattern) → p ≡ slice_index_or ps i p → i < length ps
    → all_written (map written (take (i + 1) ps)) k ≡ ((all_written (map written (take i ps)) k).0 ++ (written p (all_written (map written (take i ps)) k).1).0 ∷ [], (written p (all_written (map written (take i ps)) k).1).1)
written_more ps i k p here inside =
    ap (λ qs. all_written (map written qs) k) (take_more ps i p inside ∙ ap (λ q. take i ps ++ q ∷ []) (sym here))
    ∙ ap (λ ws. all_written ws k) (map-append written (take i ps) (p ∷ []))
    ∙ all_written-last (map written (take i ps)) (written p) k

-- a comma and a space before a text
abbrev pub later : List ℕ → List ℕ
later text = codes ", " ++ text

-- a further pattern is written after a comma and a space
pub wrote_pattern : (begun out mid new : List ℕ) (ps : List Pattern) (i k b : ℕ) (p : Pattern) → p ≡ slice_index_or ps i p → i < length ps
    → out ≡ begun ++ flat_map later (pattern_texts (take i ps) k) → b ≡ parts_after_all (take i ps) k → mid ≡ out ++ codes ", " → new ≡ mid ++ pattern_text p b
    → new ≡ begun ++ flat_map later (pattern_texts (take (i + 1) ps) k)
unfolding pattern_texts parts_after_all pattern_text
wrote_pattern begun out mid new ps i k b p here inside so_far parts comma wrote =
    let all = all_written (map written (take i ps)) k in
    let text : List ℕ = (written p all.1).0 in
    let more : flat_map later (all_written (map written (take (i + 1) ps)) k).0 ≡ flat_map later all.0 ++ later text =
    ap (λ w. flat_map later w.0) (written_more ps i k p here inside) ∙ flat_map-append later all.0 (text ∷ []) ∙ ap (λ u. flat_map later all.0 ++ u) (append-nil (later text)) in
    wrote ∙ ap (λ u. u ++ pattern_text p b) (comma ∙ ap (λ u. u ++ codes ", ") so_far) ∙ ap (λ j. ((begun ++ flat_map later all.0) ++ codes ", ") ++ pattern_text p j) parts
    ∙ append_assoc (begun ++ flat_map later all.0) (codes ", ") text
    ∙ append_assoc begun (flat_map later all.0) (later text)
    ∙ ap (λ u. begun ++ u) (sym more)

-- and the row has its parts too
pub grown_by_pattern : (ps : List Pattern) (i k b new : ℕ) (p : Pattern) → p ≡ slice_index_or ps i p → i < length ps → b ≡ parts_after_all (take i ps) k → new ≡ parts_behind p b → new ≡ parts_after_all (take (i + 1) ps) k
unfolding parts_after_all parts_behind
grown_by_pattern ps i k b new p here inside parts grown = grown ∙ ap (λ j. (written p j).1) parts ∙ ap (λ w. w.1) (sym (written_more ps i k p here inside))

-- before the first pattern nothing is written
pub none_yet : (begun : List ℕ) (k : ℕ) → begun ≡ begun ++ flat_map later (pattern_texts [] k)
unfolding pattern_texts
none_yet begun k = sym (append-nil begun)

pub none_behind : (k : ℕ) → k ≡ parts_after_all [] k
unfolding parts_after_all
none_behind k = refl

-- nor for no pattern
pub no_text : (before : List ℕ) (ps : List Pattern) (k : ℕ) → length ps < 1 → before ≡ before ++ separated (pattern_texts ps k)
unfolding pattern_texts
no_text before [] k none = sym (append-nil before)
no_text before (p ∷ ps) k none = absurd (omega (arith, none))

pub no_parts : (ps : List Pattern) (k : ℕ) → length ps < 1 → k ≡ parts_after_all ps k
unfolding parts_after_all
no_parts [] k none = refl
no_parts (p ∷ ps) k none = absurd (omega (arith, none))

-- what stands after the first of some patterns
abbrev pub others : List Pattern → List Pattern
others ps = take (length ps - 1) (drop 1 ps)

all_others : (p : Pattern) (ps : List Pattern) (i : ℕ) → length (others (p ∷ ps)) ≤ i → take i (others (p ∷ ps)) ≡ ps
all_others p ps i past = take_all i (others (p ∷ ps)) past ∙ take_rest (p ∷ ps) 1

-- the first pattern and all others are written
pub wrote_patterns : (before one out : List ℕ) (ps : List Pattern) (i k b : ℕ) (p : Pattern) → 1 ≤ length ps → p ≡ get_or ps 0 p → length (others ps) ≤ i
    → b ≡ parts_behind p k → one ≡ before ++ pattern_text p k → out ≡ one ++ flat_map later (pattern_texts (take i (others ps)) b) → out ≡ before ++ separated (pattern_texts ps k)
wrote_patterns before one out [] i k b p some here past parts first wrote = absurd (omega (arith, some))
wrote_patterns before one out (q ∷ ps) i k b p some here past parts first wrote =
    let rest : flat_map later (pattern_texts (take i (others (q ∷ ps))) b) ≡ flat_map later (pattern_texts ps (parts_behind q k)) =
    ap (λ qs. flat_map later (pattern_texts qs b)) (all_others q ps i past) ∙ ap (λ j. flat_map later (pattern_texts ps j)) (parts ∙ ap (λ r. parts_behind r k) here) in
    wrote ∙ ap (λ u. one ++ u) rest ∙ ap (λ u. u ++ flat_map later (pattern_texts ps (parts_behind q k))) (first ∙ ap (λ r. before ++ pattern_text r k) here)
    ∙ append_assoc before (pattern_text q k) (flat_map later (pattern_texts ps (parts_behind q k)))
    ∙ ap (λ texts. before ++ separated texts) (sym (pattern_texts-first q ps k))

pub grown_by_patterns : (ps : List Pattern) (i k b new : ℕ) (p : Pattern) → 1 ≤ length ps → p ≡ get_or ps 0 p → length (others ps) ≤ i
    → b ≡ parts_behind p k → new ≡ parts_after_all (take i (others ps)) b → new ≡ parts_after_all ps k
grown_by_patterns [] i k b new p some here past parts grown = absurd (omega (arith, some))
grown_by_patterns (q ∷ ps) i k b new p some here past parts grown =
    grown ∙ ap (λ qs. parts_after_all qs b) (all_others q ps i past) ∙ ap (parts_after_all ps) (parts ∙ ap (λ r. parts_behind r k) here) ∙ sym (parts_after_all-first q ps k)

-- Conditions.

agg_text : Agg → List ℕ
agg_text = fold-Agg (List ℕ) Side (List ℕ) (List ℕ) cond_step operand_step agg_step signed_step

further_text : SignedOperand → List ℕ
further_text = fold-SignedOperand (List ℕ) Side (List ℕ) (List ℕ) cond_step operand_step agg_step signed_step

cond_layer : (b : Cond-F Cond Operand Agg SignedOperand) → cond_text (roll-Cond b) ≡ cond_step (map-Cond Cond Operand Agg SignedOperand (List ℕ) Side (List ℕ) (List ℕ) cond_text operand_text agg_text further_text b)
unfolding cond_text operand_text agg_text further_text
cond_layer b = fold-roll-Cond (List ℕ) Side (List ℕ) (List ℕ) cond_step operand_step agg_step signed_step b

operand_layer : (a : Operand-F Cond Operand Agg SignedOperand) → operand_text (roll-Operand a) ≡ operand_step (map-Operand Cond Operand Agg SignedOperand (List ℕ) Side (List ℕ) (List ℕ) cond_text operand_text agg_text further_text a)
unfolding cond_text operand_text agg_text further_text
operand_layer a = fold-roll-Operand (List ℕ) Side (List ℕ) (List ℕ) cond_step operand_step agg_step signed_step a

signed_layer : (s : SignedOperand) → further_text s ≡ signed_text s
unfolding operand_text further_text signed_text
signed_layer s = fold_out-SignedOperand (List ℕ) Side (List ℕ) (List ℕ) cond_step operand_step agg_step signed_step s

all_further : (more : List SignedOperand) → flat_map (λ s. s) (map further_text more) ≡ flat_map signed_text more
all_further [] = refl
all_further (s ∷ more) = ap (λ u. u ++ flat_map (λ s. s) (map further_text more)) (signed_layer s) ∙ ap (λ u. signed_text s ++ u) (all_further more)

pub cond_text-Truth : (t : Term) → cond_text (cond.Truth t) ≡ term_text t
cond_text-Truth t = ap cond_text (sym (cond.rolls-Truth t)) ∙ cond_layer (Cond-F.Truth t)

pub cond_text-Cmp : (op : CmpOp) (a b : Operand) → cond_text (cond.Cmp op a b) ≡ operand_text a false ++ sign_text op ++ operand_text b false
cond_text-Cmp op a b = ap cond_text (sym (cond.rolls-Cmp op a b)) ∙ cond_layer (Cond-F.Cmp op a b)

pub cond_text-Not : (b : Cond) → cond_text (cond.Not b) ≡ codes "?"
cond_text-Not b = ap cond_text (sym (cond.rolls-Not b)) ∙ cond_layer (Cond-F.Not b)

pub cond_text-And : (bs : List Cond) → cond_text (cond.And bs) ≡ codes "?"
cond_text-And bs = ap cond_text (sym (cond.rolls-And bs)) ∙ cond_layer (Cond-F.And bs)

pub cond_text-Or : (bs : List Cond) → cond_text (cond.Or bs) ≡ codes "?"
cond_text-Or bs = ap cond_text (sym (cond.rolls-Or bs)) ∙ cond_layer (Cond-F.Or bs)

pub cond_text-Quant : (each : Bool) (gens : List RGen) (b : Option Cond) → cond_text (cond.Quant each gens b) ≡ codes "?"
cond_text-Quant each gens b = ap cond_text (sym (cond.rolls-Quant each gens b)) ∙ cond_layer (Cond-F.Quant each gens b)

pub operand_text-Term : (t : Term) (within : Bool) → operand_text (operand.Term t) within ≡ term_text t
operand_text-Term t within = ap (λ a. operand_text a within) (sym (operand.rolls-Term t)) ∙ ap (λ (a : Side). a within) (operand_layer (Operand-F.Term t))

pub operand_text-Agg : (a : Agg) (within : Bool) → operand_text (operand.Agg a) within ≡ codes "?"
operand_text-Agg a within = ap (λ a. operand_text a within) (sym (operand.rolls-Agg a)) ∙ ap (λ (a : Side). a within) (operand_layer (Operand-F.Agg a))

pub operand_text-Chain : (a : Operand) (more : List SignedOperand) (within : Bool) → operand_text (operand.Chain a more) within ≡ opening within ++ operand_text a true ++ flat_map signed_text more ++ ending within
operand_text-Chain a more within =
    ap (λ a. operand_text a within) (sym (operand.rolls-Chain a more)) ∙ ap (λ (a : Side). a within) (operand_layer (Operand-F.Chain a more))
    ∙ ap (λ u. opening within ++ operand_text a true ++ u ++ ending within) (all_further more)

pub ruleset cond_rules = (append_assoc, cond_text-Truth, cond_text-Cmp, cond_text-Not, cond_text-And, cond_text-Or, cond_text-Quant, operand_text-Term, operand_text-Agg, operand_text-Chain)

-- Lines that follow each other with their levels, and blocks of them.
use Rattle.std.proofs.Common.{◌≡◌, ℕ, ◌+◌, ◌≤◌, false, List, [], ◌∷◌, ◌++◌, map, refl, sym, subst, arith, append_assoc, Some}
use Rattle.std.specs.List.{flat_map}
use Rattle.da_values.specs.declared.token.Mark.{Mark}
use Rattle.da_unparse.specs.Lines.{Line}
use Rattle.da_unparse.specs.Pieces.{Piece}
use Rattle.da_unparse.specs.Printable.{Makes, opens, closes, begins_equal, Follow}
use Rattle.da_unparse.specs.Statements.{Block, line, headed, Guarded, guarded, first_and_others, otherwise, timeout}
use Rattle.da_unparse.proofs.PrintedParts.{solid, loose, Part, part, join, next, as_solid, before_part, printable_part}
use Rattle.da_unparse.proofs.PrintedSteps.{EachHas}
use Rattle.da_unparse.proofs.PrintedWords.{makes-Colon, makes-Else, makes-Timeout}

-- These lines begin at this level, and what may follow a line of this level may follow them.
pub record Starts (level : ℕ) (ls : List Line) : Type 0 where
  pub go : (most : ℕ) (rest : List Line) → level ≤ most → Follow (level + 1) rest → Follow most (ls ++ rest)

-- These lines, if there are any, may follow a line of this level, and what may follow a line of this level may follow them.
pub record Goes (level : ℕ) (ls : List Line) : Type 0 where
  pub go : (rest : List Line) → Follow (level + 1) rest → Follow (level + 1) (ls ++ rest)

-- a greater level may be next too
pub Follow-more : (few many : ℕ) (ls : List Line) → few ≤ many → Follow few ls → Follow many ls
Follow-more few many [] le f = tt
Follow-more few many (l ∷ ls) le f = (omega (arith, f.0), f.1, f.2)

pub line_starts : {ps : List Piece} (level : ℕ) → Part solid solid ps → Starts level (line ps level)
line_starts level l = record { go = λ most rest le f. (le, printable_part l, f) }

pub starts_go : {ls : List Line} (level : ℕ) → Starts level ls → Goes level ls
starts_go level s = record { go = λ rest f. s.go (level + 1) rest (omega arith) f }

-- lines one level deeper
pub deeper_go : {ls : List Line} (level : ℕ) → Starts (level + 1) ls → Goes level ls
deeper_go level s = record { go = λ rest f. s.go (level + 1) rest (omega arith) (Follow-more (level + 1) ((level + 1) + 1) rest (omega arith) f) }

pub none_go : (level : ℕ) → Goes level []
none_go level = record { go = λ rest f. f }

pub both_go : {ls ks : List Line} (level : ℕ) → Goes level ls → Goes level ks → Goes level (ls ++ ks)
both_go {ls} {ks} level a b = record { go = λ rest f. subst (Follow (level + 1)) (sym (append_assoc ls ks rest)) (a.go (ks ++ rest) (b.go rest f)) }

pub then_go : {ls ks : List Line} (level : ℕ) → Starts level ls → Goes level ks → Starts level (ls ++ ks)
then_go {ls} {ks} level a b = record { go = λ most rest le f. subst (Follow most) (sym (append_assoc ls ks rest)) (a.go most (ks ++ rest) le (b.go rest f)) }

-- ---- blocks

-- at whatever level a block begins
abbrev pub BlockStarts : Block → Type 0
BlockStarts b = (level : ℕ) → Starts level (b level)

abbrev pub BlockGoes : Block → Type 0
BlockGoes b = (level : ℕ) → Goes level (b level)

pub same_block : {b c : Block} → b ≡ c → BlockStarts c → BlockStarts b
same_block e s = subst BlockStarts (sym e) s

-- one level deeper, for each of a list
pub each_deeper : {A : Type 0} (f : A → Block) (xs : List A) → EachHas (λ x. BlockStarts (f x)) xs → (level : ℕ) → Goes level (flat_map (λ x. f x (level + 1)) xs)
each_deeper f [] each level = none_go level
each_deeper f (x ∷ xs) each level = both_go level (deeper_go level (each.0 (level + 1))) (each_deeper f xs each.1 level)

-- at the same level, for each of a list
pub each_beside : {A : Type 0} (f : A → Block) (xs : List A) → EachHas (λ x. BlockStarts (f x)) xs → (level : ℕ) → Goes level (flat_map (λ x. f x level) xs)
each_beside f [] each level = none_go level
each_beside f (x ∷ xs) each level = both_go level (starts_go level (each.0 level)) (each_beside f xs each.1 level)

pub map_each : {A B : Type 0} (P : A → Type 0) (Q : B → Type 0) (f : A → B) → ((x : A) → P x → Q (f x)) → (xs : List A) → EachHas P xs → EachHas Q (map f xs)
map_each P Q f is [] each = tt
map_each P Q f is (x ∷ xs) each = (is x each.0, map_each P Q f is xs each.1)

-- a header and its block
pub headed_starts : {header : List Piece} → Part solid solid header → (stmts : List Block) → EachHas BlockStarts stmts → BlockStarts (headed header stmts)
headed_starts l stmts each level = then_go level (line_starts level (join l (part loose solid makes-Colon refl refl refl refl))) (each_deeper (λ stmt. stmt) stmts each level)

-- ---- conditions with their blocks

abbrev pub IsGuarded : Guarded → Type 0
IsGuarded g = Part solid solid g.cond × EachHas BlockStarts g.body

pub guarded_starts : {k : Mark} {b : List ℕ} → Makes k b → begins_equal k ≡ false → opens k ≡ false → closes k ≡ false → (g : Guarded) → IsGuarded g → BlockStarts (guarded k b g)
guarded_starts makes e o c g is = headed_starts (as_solid (next (before_part makes e o c) is.0)) g.body is.1

-- the first has one word, and the others have another
pub guarded_all : {k j : Mark} {b c : List ℕ} → Makes k b → begins_equal k ≡ false → opens k ≡ false → closes k ≡ false → Makes j c → begins_equal j ≡ false → opens j ≡ false → closes j ≡ false
    → (g : Guarded) (gs : List Guarded) → IsGuarded g → EachHas IsGuarded gs → BlockStarts (first_and_others k b j c (g ∷ gs))
guarded_all {k} {j} {b} {c} first e o x other f p y g gs is each level =
    then_go level (guarded_starts first e o x g is level) (each_beside (guarded j c) gs (weaker gs each) level)
  where
    weaker : (gs : List Guarded) → EachHas IsGuarded gs → EachHas (λ g. BlockStarts (guarded j c g)) gs
    weaker [] each = tt
    weaker (g ∷ gs) each = (guarded_starts other f p y g each.0, weaker gs each.1)

pub otherwise_goes : (stmts : List Block) → EachHas BlockStarts stmts → BlockGoes (otherwise (Some stmts))
otherwise_goes stmts each level = starts_go level (headed_starts (part solid solid makes-Else refl refl refl refl) stmts each level)

pub timeout_goes : (stmts : List Block) → EachHas BlockStarts stmts → BlockGoes (timeout (Some stmts))
timeout_goes stmts each level = starts_go level (headed_starts (part solid solid makes-Timeout refl refl refl refl) stmts each level)

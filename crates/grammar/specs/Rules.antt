-- The rules that a source keeps beyond its form: ranges, depths, places, names and counts. Assumes nothing.
use Rattle.std.specs.Prelude.{◌≡◌, ℕ, zero, suc, ◌+◌, ◌<◌, ◌≤◌, false, List, [], ◌∷◌, ◌++◌, length}
use Rattle.std.specs.Str.{bytes_eq}
use Rattle.std.specs.List.{list_any}
use Rattle.program.specs.declared.variable.Variable.{Variable}
use Rattle.program.specs.declared.variable.Variable.TheVariants.{Global, Local}
use Rattle.grammar.specs.Tokens.{value, reserved}
use Rattle.grammar.specs.Sources.{Term, numeral, variable, negated, single, double, Sum, one, two, Expr, star, sum, Plain, skips, assigns, assumes, calls, returns, posts, yields, zields, Block, stop, plain, branch, loop, Procedure, Main, Bound, Aim, exactly, anything, Sizes, Source, sizes_of, procedure_places, main_places}

-- A variable is l or one of the globals.
abbrev pub Ranged : ℕ → Variable → Type 0
Ranged globals (Global n) = n < globals
Ranged globals Local = Unit {0}

-- What is asked one level further in, where there is one.
abbrev pub Inner : ℕ → (ℕ → Type 0) → Type 0
Inner zero P = ⊥
Inner (suc n) P = P n

-- The rules of terms with at most n of `!` and `(` inside one another.
abbrev pub KeepsTerm : ℕ → ℕ → Term → ℕ → Type 0
KeepsTerm values globals (numeral ds) n = value ds < values
KeepsTerm values globals (variable v) n = Ranged globals v
KeepsTerm values globals (negated t) n = Inner n (λ m. KeepsTerm values globals t m)
KeepsTerm values globals (single t) n = Inner n (λ m. KeepsTerm values globals t m)
KeepsTerm values globals (double t o u) n = Inner n (λ m. KeepsTerm values globals t m × KeepsTerm values globals u m)

abbrev pub KeepsSum : ℕ → ℕ → Sum → ℕ → Type 0
KeepsSum values globals (one t) n = KeepsTerm values globals t n
KeepsSum values globals (two t o u) n = KeepsTerm values globals t n × KeepsTerm values globals u n

abbrev pub KeepsExpr : ℕ → ℕ → Expr → Type 0
KeepsExpr values globals star = Unit {0}
KeepsExpr values globals (sum s) = KeepsSum values globals s 8

-- The rules of a statement without blocks.
abbrev pub KeepsPlain : Sizes → Plain → Type 0
KeepsPlain z skips = Unit {0}
KeepsPlain z (assigns v e) = Ranged z.globals v × KeepsExpr z.values z.globals e
KeepsPlain z (assumes e) = KeepsExpr z.values z.globals e
KeepsPlain z (calls v p e) = Ranged z.globals v × (reserved p ≡ false) × KeepsExpr z.values z.globals e
KeepsPlain z (returns e) = KeepsExpr z.values z.globals e
KeepsPlain z (posts m p e) = (value m < z.levels) × (reserved p ≡ false) × KeepsExpr z.values z.globals e
KeepsPlain z yields = Unit {0}
KeepsPlain z zields = Unit {0}

-- The rules of a block that may have blocks inside one another n deep.
abbrev pub KeepsBlock : Sizes → Block → ℕ → Type 0
KeepsBlock z stop n = Unit {0}
KeepsBlock z (plain s rest) n = KeepsPlain z s × KeepsBlock z rest n
KeepsBlock z (branch e s u rest) n = KeepsExpr z.values z.globals e × Inner n (λ m. KeepsBlock z s m) × Inner n (λ m. KeepsBlock z u m) × KeepsBlock z rest n
KeepsBlock z (loop e s rest) n = KeepsExpr z.values z.globals e × Inner n (λ m. KeepsBlock z s m) × KeepsBlock z rest n

-- The rules of procedures after others of these names: names that are free and new, and bodies within eight blocks.
abbrev pub KeepsProcedures : Sizes → List (List ℕ) → List Procedure → Type 0
KeepsProcedures z names [] = Unit {0}
KeepsProcedures z names (p ∷ ps) = (reserved p.name ≡ false) × (list_any (bytes_eq p.name) names ≡ false) × KeepsBlock z p.body 7 × KeepsProcedures z (names ++ (p.name ∷ [])) ps

-- The rules of the mains from number n on: they come in turn.
abbrev pub KeepsMains : Sizes → ℕ → List Main → Type 0
KeepsMains z n [] = Unit {0}
KeepsMains z n (m ∷ ms) = (value m.number ≡ n) × KeepsBlock z m.body 7 × KeepsMains z (suc n) ms

-- Each value is below the number of values, and each budget fits a byte.
abbrev pub KeepsValues : ℕ → List (List ℕ) → Type 0
KeepsValues values [] = Unit {0}
KeepsValues values (ds ∷ rest) = (value ds < values) × KeepsValues values rest

abbrev pub KeepsAim : ℕ → Aim → Type 0
KeepsAim values (exactly ds) = value ds < values
KeepsAim values anything = Unit {0}

abbrev pub KeepsAims : ℕ → List Aim → Type 0
KeepsAims values [] = Unit {0}
KeepsAims values (x ∷ rest) = KeepsAim values x × KeepsAims values rest

abbrev pub KeepsBounds : List Bound → Type 0
KeepsBounds [] = Unit {0}
KeepsBounds (x ∷ rest) = (value x.budget < 256) × KeepsBounds rest

-- A number written between two limits.
pub record Within (low high : ℕ) (ds : List ℕ) : Type 0 where
  pub least : low ≤ value ds
  pub most : value ds ≤ high

-- The rules of a whole source.
pub record Keeps (s : Source) : Type 0 where
  pub values : Within 2 16 s.values
  pub globals : Within 1 8 s.globals
  pub buffers : Within 1 3 s.buffers
  pub levels : Within 1 4 s.levels
  pub procedures : KeepsProcedures (sizes_of s) [] s.procedures
  pub few_procedures : length s.procedures ≤ 16
  pub mains : KeepsMains (sizes_of s) 0 s.mains
  pub each_main : length s.mains ≡ value s.buffers
  pub places : procedure_places s.procedures + main_places s.mains ≤ 200
  pub from : KeepsValues (value s.values) s.from
  pub each_from : length s.from ≡ value s.globals
  pub goal : KeepsAims (value s.values) s.goal
  pub each_goal : length s.goal ≡ value s.globals
  pub bounds : KeepsBounds s.bounds
  pub few_bounds : length s.bounds ≤ 4

-- What a line tells, by one test after another. x is what was decoded.
use Rattle.std.proofs.Common.{◌≡◌, ℕ, Bool, true, false, ◌&&◌, List, length, Some, None, sym, refl, ap, ◌∙◌}
use Rattle.std.specs.Str.{bytes_eq}
use Rattle.std.proofs.lemmas.Bool.{eq-eqb, ne_eqb}
use Rattle.program.specs.Table.{Table}
use Rattle.configuration.specs.Config.{Config}
use Rattle.configuration.specs.Layout.{width, written}
use Rattle.configuration.specs.Reading.{decoded}
use Rattle.configuration.specs.Tests.{lawful_config, lawful_line, told_if, told_by}

-- A line of another width tells nothing.
pub told_narrow : (t : Table) (l : List ℕ) → (length l ≡ width t → ⊥) → told_by t l ≡ None
unfolding lawful_line
told_narrow t l ne =
    ap (λ b. told_if (b && (lawful_config t (decoded t l) && bytes_eq (written (decoded t l)) l)) (decoded t l)) (ne_eqb (length l) (width t) ne)

-- With the width, the two tests of what was decoded decide.
told_wide : (t : Table) (l : List ℕ) (x : Config) (a b : Bool) → length l ≡ width t → x ≡ decoded t l → a ≡ lawful_config t x → b ≡ bytes_eq (written x) l → told_by t l ≡ told_if (a && b) x
unfolding lawful_line
told_wide t l x a b el ex ea eb =
    let d = decoded t l in
    ap (λ z. told_if (z && (lawful_config t d && bytes_eq (written d) l)) d) (eq-eqb (length l) (width t) el)
    ∙ (ap (λ y. told_if (lawful_config t y && bytes_eq (written y) l) y) (sym ex)
    ∙ (ap (λ z. told_if (z && bytes_eq (written x) l) x) (sym ea) ∙ ap (λ z. told_if (a && z) x) (sym eb)))

pub told_lawless : (t : Table) (l : List ℕ) (x : Config) → length l ≡ width t → x ≡ decoded t l → false ≡ lawful_config t x → told_by t l ≡ None
told_lawless t l x el ex ea = told_wide t l x false (bytes_eq (written x) l) el ex ea refl

pub told_other : (t : Table) (l : List ℕ) (x : Config) → length l ≡ width t → x ≡ decoded t l → true ≡ lawful_config t x → false ≡ bytes_eq (written x) l → told_by t l ≡ None
told_other t l x el ex ea eb = told_wide t l x true false el ex ea eb

pub told_lawful : (t : Table) (l : List ℕ) (x : Config) → length l ≡ width t → x ≡ decoded t l → true ≡ lawful_config t x → true ≡ bytes_eq (written x) l → told_by t l ≡ Some x
told_lawful t l x el ex ea eb = told_wide t l x true true el ex ea eb

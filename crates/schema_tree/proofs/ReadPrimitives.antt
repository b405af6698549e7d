-- A primitive type that is read by its name is one that a schema may have.
use Rattle.std.proofs.Common.{◌≡◌, ℕ, Bool, true, false, cond, List, bytes_eq, codes, nat_eq, drop, Option, Some, None, refl, subst}
use Rattle.std.specs.List.{starts_with, before_first, after_first}
use Rattle.outcomes.specs.Options.{◌>>=◌}
use Rattle.schema_tree.specs.declared.primitive.Primitive.{Primitive}
use Rattle.schema_tree.specs.declared.primitive.Primitive.TheVariants.{String, Long, Integer, Short, Byte, Boolean, Binary, Date, Timestamp, Float, Double, Decimal}
use Rattle.schema_tree.specs.Primitives.{is_primitive, is_decimal, plain_number, before_bracket, decimal_type, decimal_in, decimal_of, primitive_of}

abbrev IsAllowed : Option Primitive → Type 0
IsAllowed None = Unit {0}
IsAllowed (Some p) = is_primitive p ≡ true

choose : (b : Bool) (here there : Option Primitive) → IsAllowed here → IsAllowed there → IsAllowed (cond b here there)
choose true here there h k = h
choose false here there h k = k

after_step : {A : Type 0} (o : Option A) (f : A → Option Primitive) → ((x : A) → IsAllowed (f x)) → IsAllowed (o >>= f)
after_step None f h = tt
after_step (Some x) f h = h x

decimal_if : (p s : ℕ) (b : Bool) → is_decimal p s ≡ b → IsAllowed (cond b (Some (Decimal p s)) None)
decimal_if p s true is = is
decimal_if p s false is = tt

decimal_type_allowed : (p s : ℕ) → IsAllowed (decimal_type p s)
decimal_type_allowed p s = decimal_if p s (is_decimal p s) refl

abbrev scaled : ℕ → List ℕ → Option Primitive
scaled p inside = plain_number inside >>= λ s. decimal_type p s

abbrev measured : List ℕ → ℕ → Option Primitive
measured text p = before_bracket (after_first (λ b. nat_eq b 44) text) >>= scaled p

decimal_in_allowed : (text : List ℕ) → IsAllowed (decimal_in text)
unfolding decimal_in
decimal_in_allowed text =
    after_step (plain_number (before_first (λ b. nat_eq b 44) text)) (measured text) (λ p.
    after_step (before_bracket (after_first (λ b. nat_eq b 44) text)) (scaled p) (λ inside.
    after_step (plain_number inside) (λ s. decimal_type p s) (decimal_type_allowed p)))

decimal_of_allowed : (name : List ℕ) → IsAllowed (decimal_of name)
unfolding decimal_of
decimal_of_allowed name = choose (starts_with nat_eq name (codes "decimal(")) (decimal_in (drop 8 name)) None (decimal_in_allowed (drop 8 name)) tt

primitive_of_allowed : (name : List ℕ) → IsAllowed (primitive_of name)
unfolding primitive_of
primitive_of_allowed name =
    choose (bytes_eq name (codes "string")) (Some String) _ refl (
    choose (bytes_eq name (codes "long")) (Some Long) _ refl (
    choose (bytes_eq name (codes "integer")) (Some Integer) _ refl (
    choose (bytes_eq name (codes "short")) (Some Short) _ refl (
    choose (bytes_eq name (codes "byte")) (Some Byte) _ refl (
    choose (bytes_eq name (codes "boolean")) (Some Boolean) _ refl (
    choose (bytes_eq name (codes "binary")) (Some Binary) _ refl (
    choose (bytes_eq name (codes "date")) (Some Date) _ refl (
    choose (bytes_eq name (codes "timestamp")) (Some Timestamp) _ refl (
    choose (bytes_eq name (codes "float")) (Some Float) _ refl (
    choose (bytes_eq name (codes "double")) (Some Double) (decimal_of name) refl (decimal_of_allowed name)))))))))))

pub named_allowed : (name : List ℕ) (p : Primitive) → primitive_of name ≡ Some p → is_primitive p ≡ true
named_allowed name p is = subst IsAllowed is (primitive_of_allowed name)

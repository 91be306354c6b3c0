-- An answer told by its parts is the answer told. Assumes nothing.
use Rattle.oracles.specs.declared.ldlt_mgr.Pos.{Pos}
use Rattle.numbers.specs.Refusal.{number_of}
use Rattle.numbers.specs.declared.refusal.Refusal.{Refusal}
use Rattle.std.specs.Prelude.{Result, ⊤, Option}
use mathlib.Core.Path.{◌≡◌, refl}
use mathlib.Core.List.{List}
use Prim.Native.Nat.{ℕ}
use lib.Ieee.{Float}
use Rattle.std.specs.Result.{result_unwrap_or}
use Rattle.ponduvizh.specs.Exported.{number_exported, written_exported, factored_end, factored_exported}

pub number_law : (a b : (Result Float Refusal)) (old v : Float) (r : ℕ) → a ≡ b → r ≡ number_of a → v ≡ result_unwrap_or a old → (r, v) ≡ number_exported b old
number_law a b old v r d e f = rw (e, f, d) refl

pub written_law : (a : (Result ⊤ Refusal)) (out : List Float) (b : Result ⊤ Refusal × List Float) (r : ℕ) → (a, out) ≡ b → r ≡ number_of a → (r, out) ≡ written_exported b
written_law a out b r d e = rw (e, ← d) refl

pub factored_law : (a : (Result (Option Pos) Refusal)) (out : List Float) (b : Result (Option Pos) Refusal × List Float) (old v r : ℕ) → (a, out) ≡ b → r ≡ number_of a → v ≡ factored_end a old
    → (r, v, out) ≡ factored_exported b old
factored_law a out b old v r d e f = rw (e, f, ← d) refl

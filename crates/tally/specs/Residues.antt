-- Residues joined by adding are a lawful scale, and so are lawful scales side by side.
use Rattle.std.specs.Prelude.{◌≡◌, ℕ, suc, ◌+◌, ◌-◌, ◌%◌, ◌<◌}
use Rattle.std.proofs.Common.{sym, ap, ◌∙◌, mod-eq_of_lt, add_assoc, add_comm, add-zero, arith}
use Rattle.std.proofs.Math.Path.{fun_ext}
use mathlib.Core.HLevel.{Σ_prop_path}
use Rattle.std.proofs.Math.Bridge.{le_prop}
use Rattle.std.proofs.Math.Nat.{mod_self, mod-add-mod, add-mod-mod}
use Rattle.tally.specs.declared.vote.Vote.{Vote}
use Rattle.tally.specs.Scale.{Scale, Group}
use Rattle.tally.specs.Combined.{each}
use Rattle.tally.specs.Residue.{Residue, residue, modulo}

pub same : (m : ℕ) (a b : Residue m) → a.0 ≡ b.0 → a ≡ b
same m a b e = Σ_prop_path (λ (k : ℕ). le_prop {n = suc k} {m = m}) {u = a} {v = b} e

pub modulo_group : (m : ℕ) (p : 0 < m) (w : Vote → ℕ) → Group (modulo m p w)
modulo_group m p w = record {
  assoc = λ a b c. same m _ _ (mod-add-mod (a.0 + b.0) m c.0 ∙ ap (λ (n : ℕ). n % m) (add_assoc a.0 b.0 c.0) ∙ sym (add-mod-mod a.0 (b.0 + c.0) m));
  comm = λ a b. ap (residue m p) (add_comm a.0 b.0);
  unit = λ a. same m _ a (add-mod-mod a.0 0 m ∙ ap (λ (n : ℕ). n % m) (add-zero a.0) ∙ mod-eq_of_lt a.1);
  undo = λ a. same m _ (residue m p 0) (add-mod-mod a.0 (m - a.0) m ∙ ap (λ (n : ℕ). n % m) (let h = a.1 in let e : a.0 + (m - a.0) ≡ m = omega arith in e) ∙ mod_self m ∙ sym (mod-eq_of_lt p));
}

pub each_group : {I V : Type 0} (s : I → Scale V) → ((i : I) → Group (s i)) → Group (each s)
each_group s g = record {
  assoc = λ a b c. fun_ext (λ i. (g i).assoc (a i) (b i) (c i));
  comm = λ a b. fun_ext (λ i. (g i).comm (a i) (b i));
  unit = λ a. fun_ext (λ i. (g i).unit (a i));
  undo = λ a. fun_ext (λ i. (g i).undo (a i));
}

-- The files of scripts get their names, one more at a time.
use Rattle.std.proofs.Common.{◌≡◌, ◌⊎◌, inl, inr, ℕ, suc, ◌+◌, ◌<◌, ◌≤◌, List, [], ◌∷◌, ◌++◌, length, take, drop, get_or, Option, Some, refl, sym, ap, subst, ◌∙◌, arith}
use Rattle.std.proofs.lemmas.List.{take_more, length-take-le, take-append-drop}
use Rattle.workload.specs.declared.sessions.Workload.{Workload}
use Rattle.tpcc.specs.Effects.{Source}
use Rattle.tpcc.specs.Edges.{NamesFile}
use Rattle.std.specs.Borrow.{Bor}
use Rattle.tpcc.specs.declared.command_fault.CommandFault.{CommandFault}
use Rattle.tpcc.specs.declared.command_fault.CommandFault.TheVariants.{NoMemory}
use Rattle.command_line.specs.declared.settings.script.ScriptSettings.{ScriptSettings}
use Rattle.dataset.specs.FirstFault.{first_fault}
use Rattle.tpcc.specs.Faults.{IsFirst, IsOfReading, IsOfWritingOneOf}
use Rattle.tpcc.specs.Script.{AreDrawn, IsOfMaking, NamesFirstScripts, NamesScripts}

-- one of the files that are made, or no memory, as a fault of the command
pub of_making : (s : ScriptSettings) («data» : Source) (paths : List (Bor (List ℕ))) (f : CommandFault) → paths ≡ s.files.items → (f ≡ NoMemory) ⊎ IsOfWritingOneOf paths f → IsOfMaking s «data» f
of_making s «data» paths f is (inl none) = inl (subst (IsOfReading s.«data».now «data».remaining «data».lasts (IsFirst first_fault)) (sym none) tt)
of_making s «data» paths f is (inr said) = inr (inr (subst (λ l. IsOfWritingOneOf l f) is said))

module _ {F : Type 0} (contents : F → Option (List ℕ)) (workload : Workload) where
  scripts-push : (session : ℕ) (files : List F) (file : F) (named between named' : Option (List (Option (List ℕ)))) → NamesScripts contents workload session files named between
      → NamesFile contents (Some file) between named' (AreDrawn workload (session + length files)) → NamesScripts contents workload session (files ++ file ∷ []) named named'
  scripts-push session [] file named between named' are one =
      let e : session + 0 ≡ session = omega arith in
      let Names : Option (List (Option (List ℕ))) → ℕ → Type 0 = λ n s. NamesFile contents (Some file) n named' (AreDrawn workload s) in
      (named', subst (Names named) e (subst (λ n. Names n (session + 0)) are one), refl)
  scripts-push session (first ∷ files) file named between named' are one =
      let e : session + suc (length files) ≡ session + 1 + length files = omega arith in
      let Names : ℕ → Type 0 = λ s. NamesFile contents (Some file) between named' (AreDrawn workload s) in
      (are.0, are.1, scripts-push (session + 1) files file are.0 between named' are.2 (subst Names e one))

  pub scripts-more : (files : List F) (session : ℕ) (file : F) (named between named' : Option (List (Option (List ℕ)))) → session < length files → file ≡ get_or files session file
      → NamesScripts contents workload 0 (take session files) named between → NamesFile contents (Some file) between named' (AreDrawn workload session)
      → NamesScripts contents workload 0 (take (session + 1) files) named named'
  scripts-more files session file named between named' there is are one =
      let more : take (session + 1) files ≡ take session files ++ file ∷ [] = take_more files session file there ∙ ap (λ (x : F). take session files ++ x ∷ []) (sym is) in
      let up_to : session ≤ length files = omega arith in
      let at : session ≡ 0 + length (take session files) = omega (arith, length-take-le session files up_to) in
      let Names : ℕ → Type 0 = λ s. NamesFile contents (Some file) between named' (AreDrawn workload s) in
      let All : List F → Type 0 = λ l. NamesScripts contents workload 0 l named named' in
      subst All (sym more) (scripts-push 0 (take session files) file named between named' are (subst Names at one))

  -- the first of the files have got their names, and the others have not
  pub names-first : (files : List F) (session : ℕ) (named named' : Option (List (Option (List ℕ)))) → NamesScripts contents workload 0 (take session files) named named'
      → NamesFirstScripts contents workload files named named'
  names-first files session named named' are = (take session files, drop session files, sym (take-append-drop session files), are)

use Rattle.std.proofs.Common.{◌≡◌, ◌∙◌, ℤ, pos, Ok, Err, Result, Bool, true, false, ◌&&◌, is_none, if◌then◌else◌, ap, sym, arith, refl, w32, to_z, of_z, None, Option, Some}
use Rattle.std.specs.Result.{result_unwrap_or}
use Rattle.std.proofs.lemmas.Int.{to_z-of_z}
use Rattle.chip_lang.specs.SeenLine.{seen_line}
use Rattle.chip_lang.specs.declared.fault.Fault.{Fault}
use Rattle.chip_asm.specs.declared.placement.Status.TheVariants.{Pending}
use Rattle.chip_asm.specs.Layout.{value_at, value_or_zero, body_of, full_size}
use Rattle.chip_asm.specs.computed.Walk.{symbols, is_active, is_aligning}
use Rattle.chip_asm.specs.inner.Placements.{first_status, is_accepted, is_active_status, refusal}
use Rattle.chip_asm.proofs.Resumed.{placement-at, fits_at}
use Rattle.chip_asm.proofs.pass.Pass.place.Goals as goal

-- a status determines whether the line is active, and which fault it then has

first-active : (active : Bool) (fault : Option Fault) → is_active_status (first_status active fault) ≡ active
first-active false fault = refl
first-active true None = refl
first-active true (Some f) = refl

first-refusal : (active : Bool) (fault found : Option Fault) → fault ≡ (if active then found else None) → refusal (first_status active fault) ≡ fault
first-refusal false fault found h = sym h
first-refusal true None found h = refl
first-refusal true (Some f) found h = refl

accepted-parts : (active : Bool) (fault : Option Fault) → is_accepted (first_status active fault) ≡ true → (active ≡ true) × ((fault ≡ None) × (first_status active fault ≡ Pending))
accepted-parts false fault h = cc
accepted-parts true None h = (refl, (refl, refl))
accepted-parts true (Some f) h = cc

or-zero : (value : Result ℤ Fault) → result_unwrap_or value (pos 0) ≡ value_or_zero value
or-zero (Ok value) = refl
or-zero (Err fault) = refl

pub returns-clause-placed : goal.returns-clause-placed
returns-clause-placed c = λ before f.
    let active = c.is_active-active.result in
    let fault = c.fault_of-fault.result in
    let same : to_z w32 (of_z w32 c.unwrap_or-value.result) ≡ c.unwrap_or-value.result = grind (arith, to_z-of_z) in
    let read : c.value_at-read.result ≡ value_at (symbols before) (body_of (seen_line c.args.line.now)) = c.value_at-read.ensures ∙ (rw (f.names, c.body_or-body.ensures) refl) in
    let faulty = c.fault_of-fault.ensures.fault before f read in
    let size : c.size_of-size.result ≡ (if active && is_none fault then full_size (is_aligning before) c.args.self.now.here (body_of (seen_line c.args.line.now)) c.unwrap_or-value.result else 0)
    = c.size_of-size.ensures.size ∙ (rw (same, c.is_accepted.ensures, c.first-status.ensures, first-active active fault, first-refusal active fault _ faulty, f.aligning, c.body_or-body.ensures) refl) in
    rw (same, c.first-status.ensures, first-active active fault, first-refusal active fault _ faulty)
    (placement-at before (seen_line c.args.line.now) active c.args.self.now.here fault c.unwrap_or-value.result c.size_of-size.result
    (c.is_active-active.ensures before f ∙ ap (is_active before) c.body_or-body.ensures)
    f.at_address
    ((c.unwrap_or-value.ensures ∙ or-zero c.value_at-read.result) ∙ ap value_or_zero read)
    faulty
    size)

pub size_of-size-requires : goal.size_of-size-requires
size_of-size-requires c = λ placed.
    let same : to_z w32 (of_z w32 c.unwrap_or-value.result) ≡ c.unwrap_or-value.result = grind (arith, to_z-of_z) in
    let parts = accepted-parts c.is_active-active.result c.fault_of-fault.result (ap is_accepted (sym c.first-status.ensures) ∙ sym c.is_accepted.ensures ∙ placed) in
    rw (same, c.body_or-body.ensures) (fits_at _ _ _ c.value_at-read.result c.unwrap_or-value.result (c.unwrap_or-value.ensures ∙ or-zero c.value_at-read.result) (c.fault_of-fault.ensures.fits parts.0 parts.1.0))

pub returns-clause-fits : goal.returns-clause-fits
returns-clause-fits c = λ placed.
    let same : to_z w32 (of_z w32 c.unwrap_or-value.result) ≡ c.unwrap_or-value.result = grind (arith, to_z-of_z) in
    let parts = accepted-parts c.is_active-active.result c.fault_of-fault.result (ap is_accepted (sym c.first-status.ensures) ∙ placed) in
    rw same (fits_at _ _ _ c.value_at-read.result c.unwrap_or-value.result (c.unwrap_or-value.ensures ∙ or-zero c.value_at-read.result) (c.fault_of-fault.ensures.fits parts.0 parts.1.0))

pub returns-clause-pending : goal.returns-clause-pending
returns-clause-pending c = λ placed.
    let parts = accepted-parts c.is_active-active.result c.fault_of-fault.result (ap is_accepted (sym c.first-status.ensures) ∙ placed) in
    c.first-status.ensures ∙ parts.1.1

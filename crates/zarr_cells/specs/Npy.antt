-- Numpy's format: a header that says the type and the shape, and then the cells.
use Rattle.std.specs.Prelude.{◌≡◌, ◌==◌, ℕ, ◌+◌, ◌-◌, ◌%◌, ◌<◌, ◌^◌, List, [], ◌∷◌, ◌++◌, Option, Some, None}
use Rattle.std.specs.Prelude.{length, take, filter, replicate, not, codes, decimal, if◌then◌else◌}
use Rattle.std.specs.Char.{is_ascii_whitespace}
use Rattle.std.specs.Int.{w16, to_le_bytes}
use Rattle.std.specs.Io.KnownBytes.{Consumes}
use Rattle.zarr_cells.specs.declared.form.Form.{Form}
use Rattle.zarr_cells.specs.declared.form.Form.TheVariants.{Bool as BoolForm, Unsigned, Signed, Float}

-- numpy's letter for what the cells say
abbrev pub letter : Option Form → ℕ
letter None = 86
letter (Some BoolForm) = 98
letter (Some Signed) = 105
letter (Some Unsigned) = 117
letter (Some (Float width)) = 102

-- the letter for the order of the bytes
abbrev pub order : Option Form → ℕ → ℕ
order None size = 124
order (Some form) size = if size == 1 then 124 else 60

-- extents, each with the comma behind it
abbrev pub extents : List ℕ → List ℕ
extents [] = []
extents (extent ∷ shape) = decimal extent ++ 44 ∷ extents shape

-- the shape as numpy writes it: a comma behind the last extent only where there is one
abbrev pub tuple : List ℕ → List ℕ
tuple shape = if length shape == 1 then extents shape else take (length (extents shape) - 1) (extents shape)

-- what a header says, without blanks: `{'descr':'<i4','fortran_order':False,'shape':(2,3),}`
abbrev pub description : Option Form → ℕ → List ℕ → List ℕ
description form size shape =
    codes "{'descr':'" ++ order form size ∷ [] ++ letter form ∷ [] ++ decimal size ++ codes "','fortran_order':False,'shape':(" ++ tuple shape ++ codes "),}"

-- the text without its blanks
abbrev pub without_blanks : List ℕ → List ℕ
without_blanks text = filter (λ byte. not (is_ascii_whitespace byte)) text

-- what a file begins with: version 1.0
abbrev pub magic : List ℕ
magic = 147 ∷ 78 ∷ 85 ∷ 77 ∷ 80 ∷ 89 ∷ 1 ∷ 0 ∷ []

-- the bytes of the header with this text
abbrev pub header_bytes : List ℕ → List ℕ
header_bytes text = magic ++ (to_le_bytes w16 (length text) ++ text)

-- how many blanks, and a newline behind them, make the header with this text a multiple of 64 bytes
abbrev pub blank_count : List ℕ → ℕ
blank_count text = 63 - (length text % 64 + 10) % 64

-- the text with these behind it
abbrev pub padded : List ℕ → List ℕ
padded text = text ++ replicate (blank_count text) 32 ++ 10 ∷ []

-- the bytes are a header that says this, whatever its blanks
pub record IsHeader (says bytes : List ℕ) : Type 0 where
  pub text : List ℕ
  pub is : bytes ≡ header_bytes text
  pub short : length text < 2 ^ 16
  pub same : without_blanks text ≡ without_blanks says

-- the reader began with a header that says this
pub record ReadsHeader (says : List ℕ) (old new : Option (List ℕ)) : Type 0 where
  pub bytes : List ℕ
  pub is : IsHeader says bytes
  pub read : Consumes old new bytes

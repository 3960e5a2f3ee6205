-- The machine value of a struct whose one field is a raw pointer, and that it fits, whatever the struct's name.
use Rattle.escpos_c.proofs.Steps.{lit<, T, ty_ptr, tcons, tnil, Val, vstruct, vcons, vnil, has_ty, has_tys, WT, Ptr, block_ptr, null_ptr, ptr_val}

abbrev pub word : Ptr → Val
word p = vstruct (vcons (ptr_val p) vnil)

pub ptr_fits : (p : Ptr) → T (has_ty ty_ptr (ptr_val p)) × WT (ptr_val p)
ptr_fits null_ptr = (tt, record { fits = lit< tt })
ptr_fits (block_ptr b o) = (tt, tt)

pub word_fits : (p : Ptr) → T (has_tys (tcons ty_ptr tnil) (vcons (ptr_val p) vnil)) × WT (word p)
word_fits null_ptr = (tt, (record { fits = lit< tt }, tt))
word_fits (block_ptr b o) = (tt, (tt, tt))

-- The names of the kit that the walks cite, passed on.
pub use base.Fml.{ftrue, Lft, Share}
pub use base.Fraction.{full_share}
pub use base.Logic.{SProp, ent, emp, sep, via, emp∗, mono_l, mono_r, never, fst∗, snd∗, guard_i, id⊢}
pub use contract.BorrowLft.{◌⊑◌, ⊑_static}
pub use contract.Monad.{fact, fact_i, top, fact_use}
pub use contract.Running.{Running, MachineTables, tables}
pub use denote.Exit.{Last, left, yes, no}
pub use denote.Laws.{Is, shows}
pub use denote.Memory.{lone}
pub use denote.Param.{arg, layout, param, layouts, bounded}
pub use denote.Param.Laws.{Laws, arg_laws, param_laws}
pub use denote.Param.Mute.{blank}
pub use denote.RattleType.{RattleType}
pub use denote.RawPtr.{Ptr, block_ptr, null_ptr, ptr_val, rawptr_pure, lies_at, Testable, in_a_block, tests_null, RawPtr}
pub use denote.Signature.{plain}
pub use denote.Steps.{owned, nothing, heard, peeks, only}
pub use denote.Struct.Owning.{shape}
pub use denote.Struct.Struct.{Struct, Struct-Makes}
pub use denote.Triple.Call.{calls_at_last, calls_at}
pub use denote.Triple.Clauses.{Clauses, Ended, closing, Lasts, lasts}
pub use denote.Triple.Entry.{alive}
pub use denote.Triple.Spec.{Meets, triple_of}
pub use denote.Triple.Table.{framed}
pub use denote.Triple.Walked.{Stays, stay_dropped, walk_of, ends_at, says}
pub use lib.Dec.{T}
pub use mir.MapTy.{inst_fn}
pub use mir.Raw.{raw as bare}
pub use mir.Syntax.{Fn, Callee, Sym, Tys, ty_ptr, ty_struct, tcons, tnil, local, value_local, assign, seq, return, place, field, rv_opd, copy, aggregate, Dict, impl, dnil, a_type, dcons}
pub use mir.Val.{Val, vstruct, vcons, vnil, has_ty, has_tys, WT}
pub use prog.Model.{Model}
pub use prog.Wp.{Calls, Loops, WpFn, Closed}
pub use seplogic.Ra.Ura.{Ura}
pub use types.ByLocal.{alloc_all, pass_all, free_all, look_at, get, get_in, sets, lands_last, env, lands_as}
pub use types.Kit.{‵, raw, ◌⊛◌, ◌$◌, ◌∵◌, !, qed, done, move, keep, rewrite, suffices, split3, fjoin, use1, Item, Goal, Seq, Step, step, given, feq_l, learn, prop, at_ret, some, later, drop, split, join, fsplit, feq_i, pick, await, regoal, use0}
pub use types.Logic.{Logic, sem}
pub use types.Match.{live}
pub use types.Part.{agg, sub, whole}
pub use types.Run.{stop, fld, of_opd, no_more, and_then, returns, enter, lit, bin, first, branches, skips, blocks, exec, returns_within}
pub use Rattle.libc.specs.Heap.{chunk}
pub use Rattle.std.proofs.Common.{◌≡◌, List, [], ◌∷◌, ◌++◌, refl, sym, lit<, ℕ, ◌∙◌, ap}
pub use Rattle.std.proofs.GlobalToken.{dealloc_token-Testable}
pub use Rattle.std.proofs.ResultValues.{and_tt}
pub use Rattle.std.proofs.alloc.Calls.{Goes-blank}
pub use Rattle.std.proofs.alloc.Global.TheLaws.{the_row_laws as global_laws, lowers as global_lowers}
pub use Rattle.std.proofs.alloc.Shapes.{after}
pub use Rattle.std.proofs.boxed.Box.TheLaws.{the_row_laws as box_laws}
pub use Rattle.std.proofs.cell.Inside.{one}
pub use Rattle.std.proofs.impls.GlobalAllocator.TheImpl.Met.{passed}
pub use Rattle.std.proofs.option.Made.{Some-of, none_of}
pub use Rattle.std.proofs.raw_atomic.Walks.{proved, proved_at}
pub use Rattle.std.specs.Box.Ownership.{box_owns}
pub use Rattle.std.specs.Prelude.{Option, Some, None}
pub use Rattle.std.specs.contracts.alloc.Global.{the_row as global_row}
pub use Rattle.std.specs.contracts.boxed.Box.{the_row as box_row}
pub use Rattle.std.specs.contracts.impls.GlobalAllocator.TheImpl.{ghosts, dict}
pub use Rattle.std.specs.contracts.option.Option.{the_row as option_row}
pub use Rattle.std.specs.declared.alloc.Global.{Global}

-- Demands 1 and 3 for what a host calls: Refusals (refusal_leaves_all, from_the_list), Calls (calls_tell, no_kind, no_kind_nothing,
-- calls_right, calls_full), Serves (serves_tell) and Mixed (serve_is_calls, mixed_is_calls).
pub mod Refusals
pub mod Fresh
pub mod Calls
pub mod Serves
pub mod Mixed

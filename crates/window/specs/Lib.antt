-- Document 02's window of prices. A price, the last 32 of a list and their summary (Prices), the window as bytes (Window), the calls (Calls), the
-- claim about lists of calls and the calls' promises (Claims), why a call is turned down and its number (Refusals); laws of prices in PriceLaws, of
-- the bytes in WindowLaws, of calls and claims in CallLaws.
pub mod CallLaws
pub mod Calls
pub mod Claims
pub mod PriceLaws
pub mod Prices
pub mod Refusals
pub mod Window
pub mod WindowLaws

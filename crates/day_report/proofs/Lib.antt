pub mod OneMore
pub mod Listing
pub mod SiteSales
pub mod SiteDecisions
pub mod Axes
pub mod Cuts
mod Deciding
pub mod Showing
pub mod Owing
pub mod Growing
pub mod Changing
pub mod Clearing
pub mod Earlier
pub mod Deliveries
pub mod Off
pub mod OneSale
pub mod Wholes
